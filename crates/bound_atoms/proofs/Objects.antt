-- The objects of a readable, well-formed pair by number.
use Rattle.std.proofs.Common.{◌≡◌, ◌<◌, ◌≤◌, ℕ, zero, suc, true, List, [], ◌∷◌, length, Some, sym, ap, subst, ◌∙◌, arith}
use Rattle.std.specs.List.{list_all}
use Rattle.std.proofs.lemmas.Bool.{and_from, and_parts}
use Rattle.std.proofs.lemmas.List.{length-append, length-map}
use Rattle.std.proofs.lemmas.List.Folds.{list_all-append}
use Rattle.pddl_terms.specs.declared.names.Name.{Name}
use Rattle.pddl_terms.specs.declared.names.Typed.{Typed}
use Rattle.pddl_terms.specs.Readable.{IsReadable, is_readable_item, is_short_name}
use Rattle.name_table.specs.Tables.{place_in}
use Rattle.name_table.specs.TypedLists.{names_of}
use Rattle.pddl_types.specs.declared.pairs.Pair.{Pair}
use Rattle.pddl_types.specs.Pairs.{objects_of}
use Rattle.pddl_types.specs.WellFormed.{AreDistinct, WellFormed, texts_of}
use Rattle.pddl_types.proofs.Found.{names_append}
use Rattle.static_facts.specs.Atoms.{object_text, text_at}
use Rattle.static_facts.proofs.Keyed.{IsSpelled, spelled_name}
use Rattle.static_facts.proofs.Named.{placed_there}

spelled_item : (items : List Typed) → list_all is_readable_item items ≡ true → (o : ℕ) → o < length items → IsSpelled (text_at (names_of items) o)
spelled_item [] h o l = absurd (omega (arith, l))
spelled_item (t ∷ items) h zero l =
    let parts = and_parts (is_readable_item t) (list_all is_readable_item items) h in
    spelled_name t.name.text (and_parts (is_short_name t.name.text) (is_short_name t.kind.text) parts.0).0
spelled_item (t ∷ items) h (suc o) l =
    let parts = and_parts (is_readable_item t) (list_all is_readable_item items) h in
    spelled_item items parts.1 o (omega (arith, l))

module _ (p : Pair) (readable : IsReadable p.domain p.problem) (formed : WellFormed p) where
  abbrev pub objects : List Name
  objects = names_of (objects_of p)

  pub few_objects : length (objects_of p) ≤ 2048
  few_objects =
      let constants = readable.domain.few_constants in
      let others = readable.problem.few_objects in
      omega (arith, length-append p.domain.constants p.problem.objects, constants, others)

  pub length_objects : length objects ≡ length (objects_of p)
  length_objects = length-map (objects_of p) (λ (t : Typed). t.name)

  readable_objects : list_all is_readable_item (objects_of p) ≡ true
  readable_objects = list_all-append is_readable_item p.domain.constants p.problem.objects ∙ and_from _ _ readable.domain.constants readable.problem.objects

  objects_once : AreDistinct (texts_of objects)
  objects_once = subst (λ ns. AreDistinct (texts_of ns)) (sym (names_append p.domain.constants p.problem.objects)) formed.objects_once

  -- the place of the name of an object is its number
  pub placed_object : (o : ℕ) → o < length (objects_of p) → place_in (object_text p o) objects ≡ Some o
  placed_object o known =
      let spelled = spelled_item (objects_of p) readable_objects o known in
      ap (λ (t : List ℕ). place_in t objects) spelled.is ∙ placed_there objects objects_once o spelled.first spelled.rest spelled.is
