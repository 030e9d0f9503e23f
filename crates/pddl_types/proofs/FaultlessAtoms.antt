-- An atom has no fault exactly where its name is known, its arguments are as many as declared, known and of fitting types.
use Rattle.std.proofs.Common.{◌≡◌, ◌⊎◌, ◌||◌, inl, inr, ℕ, Bool, true, false, List, [], ◌∷◌, Option, Some, None, length, refl, sym, subst, ◌∙◌, if◌then◌else◌}
use Rattle.std.specs.Prelude.{◌↔◌, ◌==◌, bytes_eq}
use Rattle.std.specs.Option.{option_map_or}
use Rattle.std.proofs.lemmas.Option.{same_Some}
use Rattle.std.proofs.lemmas.Bool.Decides.{Decides-eqb}
use Rattle.pddl_terms.specs.declared.names.Arg.{Arg}
use Rattle.pddl_terms.specs.declared.names.Arg.TheVariants.{Var, Obj}
use Rattle.pddl_terms.specs.declared.names.Atom.{Atom}
use Rattle.pddl_terms.specs.declared.names.Sig.{Sig}
use Rattle.pddl_terms.specs.declared.names.Typed.{Typed}
use Rattle.pddl_types.specs.declared.faults.Side.{Side}
use Rattle.pddl_types.specs.declared.faults.CheckKind.TheVariants.{UnknownName, Arity, WrongType}
use Rattle.pddl_types.specs.declared.pairs.Pair.{Pair}
use Rattle.pddl_types.specs.declared.pairs.Sort.{Sort}
use Rattle.type_order.specs.Types.{descends, is_within}
use Rattle.pddl_types.specs.Faults.{check_fault}
use Rattle.pddl_types.specs.Pairs.{argument_name}
use Rattle.pddl_types.specs.Meanings.{named_by, sig_of}
use Rattle.pddl_types.specs.UseFaults.{argument_faults, arguments_faults, atom_faults, declared_faults, kind_faults, suits}
use Rattle.pddl_types.specs.WellFormed.{Each, IsWithin, Suits}
use Rattle.type_order.proofs.Climbs.{descends_from, descends_to}
use Rattle.pddl_types.proofs.Distinct.{bytes_decide}
use Rattle.pddl_types.proofs.Empties.{chain, both, empty_append, empty_unless}

pub either_true : (a b : Bool) {A B : Type 0} → (a ≡ true) ↔ A → (b ≡ true) ↔ B → ((a || b) ≡ true) ↔ (A ⊎ B)
either_true true b p q = (λ e. inl (p.0 refl), λ h. refl)
either_true false b p q = (λ e. inr (q.0 e), λ h. elim h [ inl x ↦ (let bad = p.1 x in cc) | inr y ↦ q.1 y ])

module _ (p : Pair) where
  within_means : (k q : List ℕ) → (is_within p.domain.types k q ≡ true) ↔ IsWithin p k q
  within_means k q = either_true (bytes_eq k q) (descends p.domain.types k q) (bytes_decide k q) (descends_from p.domain.types k q, descends_to p.domain.types k q)

  suits_means : (a : Arg) (own wanted : List ℕ) → (suits p.domain.types a own wanted ≡ true) ↔ Suits p a own wanted
  suits_means (Obj n) own wanted = within_means own wanted
  suits_means (Var n) own wanted =
      either_true (is_within p.domain.types own wanted) (descends p.domain.types wanted own) (within_means own wanted) (descends_from p.domain.types wanted own, descends_to p.domain.types wanted own)

module _ (p : Pair) (side : Side) (params : List Typed) where
  abbrev pub IsNamed : Arg → Type 0
  IsNamed a = (t : Typed) × (named_by p side params a ≡ Some t)

  -- the type of what is found by an argument suits the parameter in whose place it stands
  abbrev pub Fits : Arg → Typed → Type 0
  Fits a wanted = (own : Typed) → named_by p side params a ≡ Some own → Suits p a own.kind.text wanted.kind.text

  abbrev pub AllFit : List Arg → List Typed → Type 0
  AllFit [] wanted = Unit {0}
  AllFit (a ∷ args) [] = Unit {0}
  AllFit (a ∷ args) (w ∷ wanted) = Fits a w × AllFit args wanted

  -- what is wanted of the type of an argument
  abbrev pub FitsIn : Option Typed → Arg → Type 0
  FitsIn None a = Unit {0}
  FitsIn (Some w) a = Fits a w

  kind_means : (wanted : Option Typed) (a : Arg) (own : Typed) → named_by p side params a ≡ Some own → (kind_faults p side wanted a own ≡ []) ↔ FitsIn wanted a
  kind_means None a own e = (λ h. tt, λ h. refl)
  kind_means (Some w) a own e =
      chain (empty_unless (suits p.domain.types a own.kind.text w.kind.text) (check_fault side WrongType (argument_name a)))
      (chain (suits_means p a own.kind.text w.kind.text)
      (λ s other f. subst (λ t. Suits p a t.kind.text w.kind.text) (same_Some own other (sym e ∙ f)) s, λ h. h own e))

  pub argument_means : (wanted : Option Typed) (a : Arg) → (argument_faults p side params wanted a ≡ []) ↔ (IsNamed a × FitsIn wanted a)
  argument_means wanted a = cases (named_by p side params a) refl
    where
      cases : (x : Option Typed) → named_by p side params a ≡ x → (option_map_or (kind_faults p side wanted a) x (check_fault side UnknownName (argument_name a) ∷ []) ≡ []) ↔ (IsNamed a × FitsIn wanted a)
      cases None e = (λ h. cc, λ h. (let bad = sym e ∙ h.0.1 in cc))
      cases (Some own) e =
          let kind = kind_means wanted a own e in
          (λ h. ((own, e), kind.0 h), λ h. kind.1 h.1)

  pub arguments_mean : (wanted : List Typed) (args : List Arg) → (arguments_faults p side params wanted args ≡ []) ↔ (Each IsNamed args × AllFit args wanted)
  arguments_mean wanted [] = (λ h. (tt, tt), λ h. refl)
  arguments_mean [] (a ∷ args) =
      chain (empty_append (argument_faults p side params None a) (arguments_faults p side params [] args))
      (chain (both (argument_means None a) (arguments_mean [] args)) (λ h. ((h.0.0, h.1.0), tt), λ h. ((h.0.0, tt), (h.0.1, none args))))
    where
      none : (xs : List Arg) → AllFit xs []
      none [] = tt
      none (x ∷ xs) = tt
  arguments_mean (w ∷ wanted) (a ∷ args) =
      chain (empty_append (argument_faults p side params (Some w) a) (arguments_faults p side params wanted args))
      (chain (both (argument_means (Some w) a) (arguments_mean wanted args)) (λ h. ((h.0.0, h.1.0), (h.0.1, h.1.1)), λ h. ((h.0.0, h.1.0), (h.0.1, h.1.1))))

  abbrev pub IsKnown : Sort → Atom → Type 0
  IsKnown sort a = (s : Sig) × (sig_of p.domain sort a.head.text ≡ Some s)

  abbrev pub HasArity : Sort → Atom → Type 0
  HasArity sort a = (s : Sig) → sig_of p.domain sort a.head.text ≡ Some s → length s.params ≡ length a.args

  abbrev pub IsTyped : Sort → Atom → Type 0
  IsTyped sort a = (s : Sig) → sig_of p.domain sort a.head.text ≡ Some s → AllFit a.args s.params

  declared_means : (sort : Sort) (a : Atom) (s : Sig) → sig_of p.domain sort a.head.text ≡ Some s
      → (declared_faults p side params a s ≡ []) ↔ (IsKnown sort a × HasArity sort a × IsTyped sort a × Each IsNamed a.args)
  declared_means sort a s e = cases (length s.params == length a.args) (Decides-eqb (length s.params) (length a.args))
    where
      this : (t : Sig) → sig_of p.domain sort a.head.text ≡ Some t → s ≡ t
      this t f = same_Some s t (sym e ∙ f)

      cases : (test : Bool) → ((test ≡ true → length s.params ≡ length a.args) × (length s.params ≡ length a.args → test ≡ true))
          → ((if test then arguments_faults p side params s.params a.args else check_fault side Arity a.head ∷ arguments_faults p side params [] a.args) ≡ [])
          ↔ (IsKnown sort a × HasArity sort a × IsTyped sort a × Each IsNamed a.args)
      cases true d =
          let inner = arguments_mean s.params a.args in (
            λ h.
                let parts = inner.0 h in
                ((s, e), λ t f. subst (λ u. length u.params ≡ length a.args) (this t f) (d.0 refl), λ t f. subst (λ u. AllFit a.args u.params) (this t f) parts.1, parts.0),
            λ h. inner.1 (h.3, h.2 s e),
          )
      cases false d = (λ h. cc, λ h. (let bad = d.1 (h.1 s e) in cc))

  pub atom_means : (sort : Sort) (a : Atom) → (atom_faults p side params sort a ≡ []) ↔ (IsKnown sort a × HasArity sort a × IsTyped sort a × Each IsNamed a.args)
  atom_means sort a = cases (sig_of p.domain sort a.head.text) refl
    where
      cases : (x : Option Sig) → sig_of p.domain sort a.head.text ≡ x
          → (option_map_or (declared_faults p side params a) x (check_fault side UnknownName a.head ∷ arguments_faults p side params [] a.args) ≡ [])
          ↔ (IsKnown sort a × HasArity sort a × IsTyped sort a × Each IsNamed a.args)
      cases None e = (λ h. cc, λ h. (let bad = sym e ∙ h.0.1 in cc))
      cases (Some s) e = declared_means sort a s e
