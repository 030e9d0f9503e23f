-- Where names are declared once, the first that has a name is the one that stands there with it.
use Rattle.std.proofs.Common.{◌≡◌, ◌⊎◌, ◌&&◌, inl, inr, ℕ, Bool, true, false, List, [], ◌∷◌, ◌++◌, Option, Some, None, map, is_some, refl, sym, ap, subst, ◌∙◌, cond, if◌then◌else◌}
use Rattle.std.specs.Prelude.{◌↔◌, bytes_eq, not}
use Rattle.std.specs.List.{find}
use Rattle.std.proofs.lemmas.Option.{same_Some}
use Rattle.pddl_terms.specs.declared.names.Name.{Name}
use Rattle.pddl_terms.specs.declared.names.Arg.{Arg}
use Rattle.pddl_terms.specs.declared.names.Arg.TheVariants.{Var, Obj}
use Rattle.pddl_terms.specs.declared.names.Sig.{Sig}
use Rattle.pddl_terms.specs.declared.names.Typed.{Typed}
use Rattle.pddl_terms.specs.declared.files.Domain.{Domain}
use Rattle.name_table.specs.TypedLists.{names_of}
use Rattle.pddl_types.specs.declared.faults.Side.{Side}
use Rattle.pddl_types.specs.declared.faults.Side.TheVariants as side
use Rattle.pddl_types.specs.declared.pairs.Pair.{Pair}
use Rattle.pddl_types.specs.declared.pairs.Sort.{Sort}
use Rattle.pddl_types.specs.declared.pairs.Sort.TheVariants.{Predicate, Function}
use Rattle.pddl_types.specs.Pairs.{heads_of, objects_of}
use Rattle.pddl_types.specs.Meanings.{first_sig, functions_first, named_by, sig_of}
use Rattle.pddl_types.specs.WellFormed.{AreDistinct, Declares, Means, Stands, texts_of}
use Rattle.pddl_types.proofs.Distinct.{bytes_decide, distinct_halves, texts_append}
use Rattle.pddl_types.proofs.Found.{names_append}

-- ---- lists of what has names

module _ {A : Type 0} (name_of : A → Name) where
  abbrev first_named : List ℕ → List A → Option A
  first_named text xs = find (λ x. bytes_eq text (name_of x).text) xs

  stands_by_name : (x : A) (xs : List A) → Stands x xs → Stands (name_of x).text (texts_of (map name_of xs))
  stands_by_name x [] h = absurd h
  stands_by_name x (y ∷ ys) (inl e) = inl (ap (λ (z : A). (name_of z).text) e)
  stands_by_name x (y ∷ ys) (inr h) = inr (stands_by_name x ys h)

  none_named : (text : List ℕ) (xs : List A) → (Stands text (texts_of (map name_of xs)) → ⊥) → first_named text xs ≡ None
  none_named text [] h = refl
  none_named text (y ∷ ys) h = cases (bytes_eq text (name_of y).text) (bytes_decide text (name_of y).text) (none_named text ys (λ i. h (inr i)))
    where
      cases : (test : Bool) → (test ≡ true) ↔ (text ≡ (name_of y).text) → first_named text ys ≡ None → cond test (Some y) (first_named text ys) ≡ None
      cases true d rest = absurd (h (inl (d.0 refl)))
      cases false d rest = rest

  found_stands : (text : List ℕ) (xs : List A) (x : A) → first_named text xs ≡ Some x → Stands x xs × (text ≡ (name_of x).text)
  found_stands text [] x e = cc
  found_stands text (y ∷ ys) x e = cases (bytes_eq text (name_of y).text) (bytes_decide text (name_of y).text) e (found_stands text ys x)
    where
      cases : (test : Bool) → (test ≡ true) ↔ (text ≡ (name_of y).text) → cond test (Some y) (first_named text ys) ≡ Some x
          → (first_named text ys ≡ Some x → Stands x ys × (text ≡ (name_of x).text)) → Stands x (y ∷ ys) × (text ≡ (name_of x).text)
      cases true d f rest =
          let same : y ≡ x = same_Some y x f in
          (inl (sym same), d.0 refl ∙ ap (λ (z : A). (name_of z).text) same)
      cases false d f rest =
          let found = rest f in
          (inr found.0, found.1)

  standing_found : (text : List ℕ) (xs : List A) (x : A) → AreDistinct (texts_of (map name_of xs)) → Stands x xs → text ≡ (name_of x).text → first_named text xs ≡ Some x
  standing_found text [] x once h named = absurd h
  standing_found text (y ∷ ys) x once h named = cases (bytes_eq text (name_of y).text) (bytes_decide text (name_of y).text) h (λ i. standing_found text ys x once.1 i named)
    where
      cases : (test : Bool) → (test ≡ true) ↔ (text ≡ (name_of y).text) → (x ≡ y) ⊎ Stands x ys → (Stands x ys → first_named text ys ≡ Some x)
          → cond test (Some y) (first_named text ys) ≡ Some x
      cases true d (inl e) rest = ap Some (sym e)
      cases true d (inr i) rest = absurd (once.0 (subst (λ t. Stands t (texts_of (map name_of ys))) (sym named ∙ d.0 refl) (stands_by_name x ys i)))
      cases false d (inl e) rest =
          let yes = d.1 (named ∙ ap (λ (z : A). (name_of z).text) e) in
          cc
      cases false d (inr i) rest = rest i

  pub first_is_meant : (text : List ℕ) (xs : List A) → AreDistinct (texts_of (map name_of xs)) → (x : A) → (Stands x xs × (text ≡ (name_of x).text)) ↔ (first_named text xs ≡ Some x)
  first_is_meant text xs once x = (λ h. standing_found text xs x once h.0 h.1, λ e. found_stands text xs x e)

-- ---- predicates and functions

and_false : (b c : Bool) → c ≡ false → (b && c) ≡ false
and_false true c e = e
and_false false c e = refl

module _ (d : Domain) (once : AreDistinct (texts_of (heads_of d.predicates ++ heads_of d.functions))) where
  abbrev halves : AreDistinct (texts_of (heads_of d.predicates)) × AreDistinct (texts_of (heads_of d.functions))
      × ((t : List ℕ) → Stands t (texts_of (heads_of d.predicates)) → Stands t (texts_of (heads_of d.functions)) → ⊥)
  halves =
      (distinct_halves (texts_of (heads_of d.predicates)) (texts_of (heads_of d.functions))).0
      (subst AreDistinct (texts_append (heads_of d.predicates) (heads_of d.functions)) once)

  only_if : (test : Bool) (x : Option Sig) (s : Sig) → (if test then None else x) ≡ Some s → x ≡ Some s
  only_if true x s e = cc
  only_if false x s e = e

  unhindered : (test : Bool) (x : Option Sig) → test ≡ false → (if test then None else x) ≡ x
  unhindered true x e = cc
  unhindered false x e = refl

  absent : (text : List ℕ) (sigs : List Sig) → (Stands text (texts_of (heads_of sigs)) → ⊥) → is_some (first_sig text sigs) ≡ false
  absent text sigs h = ap is_some (none_named (λ (s : Sig). s.name) text sigs h)

  pub declared_is_meant : (sort : Sort) (text : List ℕ) (s : Sig) → Declares d sort text s ↔ (sig_of d sort text ≡ Some s)
  declared_is_meant Predicate text s =
      let meant = first_is_meant (λ (s : Sig). s.name) text d.predicates halves.0 s in (
        λ h.
            let here = subst (λ t. Stands t (texts_of (heads_of d.predicates))) (sym h.named) (stands_by_name (λ (s : Sig). s.name) s d.predicates h.stands) in
            unhindered (functions_first d.predicates d.functions && is_some (first_sig text d.functions)) (first_sig text d.predicates)
            (and_false (functions_first d.predicates d.functions) (is_some (first_sig text d.functions)) (absent text d.functions (λ i. halves.2 text here i)))
            ∙ meant.0 (h.stands, h.named),
        λ e.
            let found = meant.1 (only_if (functions_first d.predicates d.functions && is_some (first_sig text d.functions)) (first_sig text d.predicates) s e) in
            record { stands = found.0; named = found.1 },
      )
  declared_is_meant Function text s =
      let meant = first_is_meant (λ (s : Sig). s.name) text d.functions halves.1 s in (
        λ h.
            let here = subst (λ t. Stands t (texts_of (heads_of d.functions))) (sym h.named) (stands_by_name (λ (s : Sig). s.name) s d.functions h.stands) in
            unhindered (not (functions_first d.predicates d.functions) && is_some (first_sig text d.predicates)) (first_sig text d.functions)
            (and_false (not (functions_first d.predicates d.functions)) (is_some (first_sig text d.predicates)) (absent text d.predicates (λ i. halves.2 text i here)))
            ∙ meant.0 (h.stands, h.named),
        λ e.
            let found = meant.1 (only_if (not (functions_first d.predicates d.functions) && is_some (first_sig text d.predicates)) (first_sig text d.functions) s e) in
            record { stands = found.0; named = found.1 },
      )

-- ---- arguments

module _ (p : Pair) (once : AreDistinct (texts_of (names_of p.domain.constants ++ names_of p.problem.objects))) where
  constants_once : AreDistinct (texts_of (names_of p.domain.constants))
  constants_once =
      ((distinct_halves (texts_of (names_of p.domain.constants)) (texts_of (names_of p.problem.objects))).0
      (subst AreDistinct (texts_append (names_of p.domain.constants) (names_of p.problem.objects)) once)).0

  objects_once : AreDistinct (texts_of (names_of (objects_of p)))
  objects_once = subst (λ ns. AreDistinct (texts_of ns)) (sym (names_append p.domain.constants p.problem.objects)) once

  pub argument_is_meant : (s : Side) (params : List Typed) → AreDistinct (texts_of (names_of params)) → (a : Arg) (t : Typed) → Means p s params a t ↔ (named_by p s params a ≡ Some t)
  argument_is_meant s params apart (Var n) t = first_is_meant (λ (t : Typed). t.name) n.text params apart t
  argument_is_meant side.Domain params apart (Obj n) t = first_is_meant (λ (t : Typed). t.name) n.text p.domain.constants constants_once t
  argument_is_meant side.Problem params apart (Obj n) t = first_is_meant (λ (t : Typed). t.name) n.text (objects_of p) objects_once t
