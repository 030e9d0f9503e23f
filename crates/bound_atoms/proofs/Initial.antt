-- The atoms that are given at first have names that stand for something, and few arguments.
use Rattle.std.proofs.Common.{◌≡◌, ◌≤◌, ◌&&◌, ◌||◌, ◌++◌, ℕ, Bool, true, false, List, [], ◌∷◌, length, Some, None, map, refl, sym, ap, subst, ◌∙◌, arith, is_some, inl, inr, if◌then◌else◌}
use Rattle.std.specs.Prelude.{bytes_eq, find, flat_map, nat_le, option_map}
use Rattle.std.specs.List.{All, list_all, list_any}
use Rattle.std.proofs.lemmas.Bool.{and_from, le-leb}
use Rattle.std.proofs.lemmas.List.{length-map}
use Rattle.std.proofs.lemmas.List.Elements.{All-head, All-tail}
use Rattle.std.proofs.lemmas.Slice.Eq.{bytes_eq-Decides, slice_eq-Decides}
use Rattle.num_ends.specs.Decimal.{Decimal, trimmed}
use Rattle.pddl_terms.specs.declared.names.Arg.{Arg}
use Rattle.pddl_terms.specs.declared.names.Arg.TheVariants.{Var, Obj}
use Rattle.pddl_terms.specs.declared.names.Atom.{Atom}
use Rattle.pddl_terms.specs.declared.names.Sig.{Sig}
use Rattle.pddl_terms.specs.declared.names.Typed.{Typed}
use Rattle.pddl_terms.specs.declared.actions.Schema.{Schema}
use Rattle.pddl_terms.specs.Readable.{IsReadable, IsReadableSignature}
use Rattle.pddl_terms.specs.Texts.{argument_text}
use Rattle.name_table.specs.Tables.{place_in}
use Rattle.name_table.specs.TypedLists.{names_of}
use Rattle.pddl_types.specs.declared.faults.Side.TheVariants as side
use Rattle.pddl_types.specs.declared.pairs.Pair.{Pair}
use Rattle.pddl_types.specs.Contents.{Mention, Use, all_used, condition_parts, mentions_in, schema_uses, uses_in, uses_of}
use Rattle.pddl_types.specs.Pairs.{heads_of, objects_of}
use Rattle.pddl_types.specs.WellFormed.{Declares, Each, Means, Stands, WellFormed, signatures_of}
use Rattle.pddl_types.proofs.Empties.{each_append, each_flat, each_four_append, each_map}
use Rattle.static_facts.specs.Atoms.{atom_of, is_true_at_first, same_atom, value_at_first}
use Rattle.bound_atoms.proofs.Placing.{stands_placed}

-- an atom's name is declared, each of its arguments is an object, and these are few
abbrev pub is_resolved : Pair → List Sig → List (List ℕ) → Bool
is_resolved p sigs [] = false
is_resolved p sigs (head ∷ others) =
    (is_some (place_in head (heads_of sigs)) && list_all (λ t. is_some (place_in t (names_of (objects_of p)))) others) && nat_le (length others) 8

-- ---- tests that no member passes

none_any : {A : Type 0} (test : A → Bool) (xs : List A) → Each (λ x. test x ≡ false) xs → list_any test xs ≡ false
none_any test [] h = refl
none_any test (x ∷ xs) h = ap (λ (b : Bool). b || list_any test xs) h.0 ∙ none_any test xs h.1

none_found : {A : Type 0} (test : A → Bool) (xs : List A) → Each (λ x. test x ≡ false) xs → find test xs ≡ None
none_found test [] h = refl
none_found {A} test (x ∷ xs) h = chosen (test x) h.0 (none_found test xs h.1)
  where
    chosen : (b : Bool) → b ≡ false → find test xs ≡ None → (if b then Some x else find test xs) ≡ None
    chosen true e rest = cc
    chosen false e rest = rest

stands_few : (s : Sig) (sigs : List Sig) → All IsReadableSignature sigs → Stands s sigs → length s.params ≤ 8
stands_few s [] h t = absurd t
stands_few s (g ∷ sigs) h (inl e) = subst (λ (x : Sig). length x.params ≤ 8) (sym e) (All-head IsReadableSignature g sigs h).few_params
stands_few s (g ∷ sigs) h (inr u) = stands_few s sigs (All-tail IsReadableSignature g sigs h) u

module _ (p : Pair) (readable : IsReadable p.domain p.problem) (formed : WellFormed p) where
  abbrev IsMeant : Mention → Type 0
  IsMeant m = (t : Typed) × Means p m.side m.params m.arg t

  abbrev IsKnown : Use → Type 0
  IsKnown u = (s : Sig) × Declares p.domain u.sort u.atom.head.text s

  abbrev IsMatched : Use → Type 0
  IsMatched u = (s : Sig) → Declares p.domain u.sort u.atom.head.text s → length s.params ≡ length u.atom.args

  abbrev AreMeant : Use → Type 0
  AreMeant u = Each IsMeant (mentions_in u.side u.params u.atom.args)

  all_meant : Each AreMeant (uses_of p)
  all_meant =
      let arguments : List Mention = flat_map (λ (u : Use). mentions_in u.side u.params u.atom.args) (uses_of p) in
      let compared : List Mention = flat_map (λ (s : Schema). mentions_in side.Domain s.params (condition_parts s.pre).objects) p.domain.schemas in
      let in_goal : List Mention = mentions_in side.Problem [] (condition_parts p.problem.goal).objects in
      (each_flat IsMeant (λ (u : Use). mentions_in u.side u.params u.atom.args) (uses_of p)).0
      ((each_append IsMeant arguments compared).0 ((each_append IsMeant (arguments ++ compared) in_goal).0 formed.arguments_known).0).0

  -- ---- atoms as they are written

  argument_found : (a : Arg) (t : Typed) → Means p side.Problem [] a t → is_some (place_in (argument_text [] [] a) (names_of (objects_of p))) ≡ true
  argument_found (Var n) t m = elim m.0 [ ]
  argument_found (Obj n) t m = stands_placed (λ (u : Typed). u.name) n.text t (objects_of p) m.0 m.1

  arguments_found : (args : List Arg) → Each IsMeant (mentions_in side.Problem [] args)
      → list_all (λ t. is_some (place_in t (names_of (objects_of p)))) (map (argument_text [] []) args) ≡ true
  arguments_found [] h = refl
  arguments_found (a ∷ args) h = and_from _ _ (argument_found a h.0.0 h.0.1) (arguments_found args h.1)

  resolved : (sort : _) → All IsReadableSignature (signatures_of p.domain sort) → (a : Atom) → IsKnown (record { side = side.Problem; params = []; sort = sort; atom = a })
      → IsMatched (record { side = side.Problem; params = []; sort = sort; atom = a }) → Each IsMeant (mentions_in side.Problem [] a.args)
      → is_resolved p (signatures_of p.domain sort) (atom_of [] [] a) ≡ true
  resolved sort sigs a known matched meant =
      let few = stands_few known.0 (signatures_of p.domain sort) sigs known.1.stands in
      let same = matched known.0 known.1 in
      and_from _ _ (and_from _ _ (stands_placed (λ (s : Sig). s.name) a.head.text known.0 (signatures_of p.domain sort) known.1.stands known.1.named) (arguments_found a.args meant))
      (le-leb (length (map (argument_text [] []) a.args)) 8 (omega (arith, few, same, length-map a.args (argument_text [] []))))

  all_resolved : (sort : _) → All IsReadableSignature (signatures_of p.domain sort) → (atoms : List Atom) → Each IsKnown (all_used side.Problem [] sort atoms)
      → Each IsMatched (all_used side.Problem [] sort atoms) → Each AreMeant (all_used side.Problem [] sort atoms)
      → Each (λ a. is_resolved p (signatures_of p.domain sort) (atom_of [] [] a) ≡ true) atoms
  all_resolved sort sigs [] k m e = tt
  all_resolved sort sigs (a ∷ atoms) k m e = (resolved sort sigs a k.0 m.0 e.0, all_resolved sort sigs atoms k.1 m.1 e.1)

  pub facts_resolved : Each (λ a. is_resolved p p.domain.predicates (atom_of [] [] a) ≡ true) p.problem.facts
  facts_resolved =
      let known = (each_four_append IsKnown (flat_map schema_uses p.domain.schemas) (all_used side.Problem [] _ p.problem.facts) (all_used side.Problem [] _ (map (λ v. v.0) p.problem.values))
      (uses_in side.Problem [] p.problem.goal)).0 formed.heads_known in
      let matched = (each_four_append IsMatched (flat_map schema_uses p.domain.schemas) (all_used side.Problem [] _ p.problem.facts) (all_used side.Problem [] _ (map (λ v. v.0) p.problem.values))
      (uses_in side.Problem [] p.problem.goal)).0 formed.arities_agree in
      let meant = (each_four_append AreMeant (flat_map schema_uses p.domain.schemas) (all_used side.Problem [] _ p.problem.facts) (all_used side.Problem [] _ (map (λ v. v.0) p.problem.values))
      (uses_in side.Problem [] p.problem.goal)).0 all_meant in
      all_resolved _ readable.domain.predicates p.problem.facts known.1 matched.1 meant.1

  pub values_resolved : Each (λ a. is_resolved p p.domain.functions (atom_of [] [] a) ≡ true) (map (λ v. v.0) p.problem.values)
  values_resolved =
      let known = (each_four_append IsKnown (flat_map schema_uses p.domain.schemas) (all_used side.Problem [] _ p.problem.facts) (all_used side.Problem [] _ (map (λ v. v.0) p.problem.values))
      (uses_in side.Problem [] p.problem.goal)).0 formed.heads_known in
      let matched = (each_four_append IsMatched (flat_map schema_uses p.domain.schemas) (all_used side.Problem [] _ p.problem.facts) (all_used side.Problem [] _ (map (λ v. v.0) p.problem.values))
      (uses_in side.Problem [] p.problem.goal)).0 formed.arities_agree in
      let meant = (each_four_append AreMeant (flat_map schema_uses p.domain.schemas) (all_used side.Problem [] _ p.problem.facts) (all_used side.Problem [] _ (map (λ v. v.0) p.problem.values))
      (uses_in side.Problem [] p.problem.goal)).0 all_meant in
      all_resolved _ readable.domain.functions (map (λ v. v.0) p.problem.values) known.2 matched.2 meant.2

  -- ---- others aren't given

  unlike : (sigs : List Sig) (x y : List (List ℕ)) → is_resolved p sigs x ≡ false → is_resolved p sigs y ≡ true → same_atom x y ≡ false
  unlike sigs x y n r = cases (same_atom x y) refl
    where
      cases : (test : Bool) → same_atom x y ≡ test → test ≡ false
      cases false t = refl
      cases true t =
          let is : x ≡ y = (slice_eq-Decides {E = bytes_eq} bytes_eq-Decides x y (same_atom x y) refl).0 t in
          let bad = sym n ∙ ap (is_resolved p sigs) is ∙ r in cc

  all_unlike : (sigs : List Sig) (x : List (List ℕ)) → is_resolved p sigs x ≡ false → (atoms : List Atom) → Each (λ a. is_resolved p sigs (atom_of [] [] a) ≡ true) atoms
      → Each (λ a. same_atom x (atom_of [] [] a) ≡ false) atoms
  all_unlike sigs x n [] h = tt
  all_unlike sigs x n (a ∷ atoms) h = (unlike sigs x (atom_of [] [] a) n h.0, all_unlike sigs x n atoms h.1)

  pub not_true : (x : List (List ℕ)) → is_resolved p p.domain.predicates x ≡ false → is_true_at_first p x ≡ false
  unfolding is_true_at_first
  not_true x n = none_any (λ a. same_atom x (atom_of [] [] a)) p.problem.facts (all_unlike p.domain.predicates x n p.problem.facts facts_resolved)

  pub no_value : (x : List (List ℕ)) → is_resolved p p.domain.functions x ≡ false → value_at_first p x ≡ None
  unfolding value_at_first
  no_value x n =
      ap (option_map (λ (v : Atom × Decimal). trimmed v.1))
      (none_found (λ (v : Atom × Decimal). same_atom x (atom_of [] [] v.0)) p.problem.values
      ((each_map (λ a. same_atom x (atom_of [] [] a) ≡ false) (λ (v : Atom × Decimal). v.0) p.problem.values).0
      (all_unlike p.domain.functions x n (map (λ v. v.0) p.problem.values) values_resolved)))
