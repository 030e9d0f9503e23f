-- The steps of a plan of a readable pair are made of names.
use Rattle.std.proofs.Common.{◌≡◌, ℕ, Bool, true, false, List, [], ◌∷◌, All, Option, Some, IsTrue, map, length, get_or, refl, sym, ap, subst, ◌∙◌, cond, arith, zero, suc, ◌<◌}
use Rattle.std.specs.Prelude.{bytes_eq, find}
use Rattle.std.specs.List.{list_all}
use Rattle.std.proofs.lemmas.Slice.Eq.{bytes_eq-Decides}
use Rattle.num_ends.specs.Names.{is_name}
use Rattle.pddl_terms.specs.Readable.{IsReadable, IsReadableSchema, is_short_name}
use Rattle.pddl_terms.specs.declared.limits.TheConstants.{MAX_LETTERS}
use Rattle.pddl_terms.specs.declared.actions.Schema.{Schema}
use Rattle.pddl_types.specs.declared.pairs.Pair.{Pair}
use Rattle.pddl_meaning.proofs.Bounds.{both_true, true_both}
use Rattle.pddl_meaning.specs.Steps.{IsStep}
use Rattle.pddl_meaning.specs.Worlds.{WorldValue}
use Rattle.ground_meaning.proofs.LegalArguments.{legal_arguments, objects_named}
use Rattle.ground_meaning.proofs.ReadyEffects.{all_objects}
use Rattle.plan_text.specs.Plans.{is_named}
use Rattle.plan_text.specs.declared.step.Step.{Step}

-- a step of a pair as a line of a plan has it
abbrev pub as_step : List ℕ × List (List ℕ) → Step
as_step s = record { name = s.0; args = s.1 }

-- what holds of each member of a list holds of one that is found there
found_of_all : {A : Type 0} (P : A → Type 0) (test : A → Bool) (xs : List A) (x : A) → All P xs → find test xs ≡ Some x → P x × (test x ≡ true)
found_of_all P test [] x all is = cc
found_of_all P test (y ∷ ys) x all is = by (test y) refl is (λ k. found_of_all P test ys x (λ n d within. all (suc n) d (omega (arith, within))) k)
  where
    by : (t : Bool) → test y ≡ t → cond t (Some y) (find test ys) ≡ Some x → (find test ys ≡ Some x → P x × (test x ≡ true)) → P x × (test x ≡ true)
    by true e k more = let same : y ≡ x = cc in (subst P same (all 0 y (omega arith)), subst (λ z. test z ≡ true) same e)
    by false e k more = more k

module _ (p : Pair) (readable : IsReadable p.domain p.problem) where
  -- an action that leads anywhere has a name, and names for arguments
  pub step_named : (w : WorldValue) (s : List ℕ × List (List ℕ)) (next : WorldValue) → IsStep p w s.0 s.1 next → is_named (as_step s) ≡ true
  step_named w s next is =
      let found = found_of_all IsReadableSchema (λ z. bytes_eq s.0 z.name.text) p.domain.schemas is.action readable.domain.schemas is.named in
      let same : s.0 ≡ is.action.name.text = (bytes_eq-Decides s.0 is.action.name.text).0 found.1 in
      let named : is_name is.action.name.text ≡ true = (both_true (is_name is.action.name.text) _ found.0.name).0 in
      let legal = legal_arguments p is.action.params s.1 is.legal in
      true_both (is_name s.0) (list_all is_name s.1) (ap is_name same ∙ named)
      (subst (λ (args : List (List ℕ)). list_all is_name args ≡ true) legal.named (objects_named p (all_objects p readable) legal.objects legal.known))
