-- The initial world by atoms: its facts and values are those that `:init` gives.
use Rattle.std.proofs.Common.{◌≡◌, ◌||◌, ◌==◌, not, eqb-true, ℕ, Bool, true, false, List, [], ◌∷◌, map, Option, Some, cond, refl, sym, ap, ap₂, ◌∙◌}
use Rattle.std.specs.Prelude.{bytes_eq, find, option_map}
use Rattle.std.specs.Bool.{one_answer}
use Rattle.std.specs.List.{list_all, list_any}
use Rattle.std.specs.Cmp.Lexicographic.{pointwise_decides, texts_ties}
use Rattle.std.specs.FinSet as set
use Rattle.std.specs.FinMap as finite
use Rattle.std.proofs.lemmas.Slice.Eq.{bytes_eq-Decides}
use Rattle.num_ends.specs.Decimal.{Decimal, trimmed}
use Rattle.num_ends.specs.Names.{is_name}
use Rattle.pddl_terms.specs.declared.names.Arg.{Arg}
use Rattle.pddl_terms.specs.declared.names.Arg.TheVariants.{Var, Obj}
use Rattle.pddl_terms.specs.declared.names.Atom.{Atom}
use Rattle.pddl_terms.specs.Texts.{argument_text, ground_text}
use Rattle.pddl_terms.specs.Readable.{is_readable_argument, is_readable_atom, is_short_name, is_short_variable}
use Rattle.pddl_types.specs.declared.pairs.Pair.{Pair}
use Rattle.name_table.specs.Tables.{is_text_among}
use Rattle.static_facts.specs.Atoms.{atom_of, is_true_at_first, same_atom, text_of_atom, value_at_first}
use Rattle.pddl_meaning.specs.Worlds.{initial_world, text_cmp}
use Rattle.pddl_meaning.proofs.Bounds.{both_true, true_both}
use Rattle.pddl_meaning.proofs.Members.{in_listed, texts_total}
use Rattle.ground_meaning.proofs.Names.{AreWords, is_word, name_is_word, same_words}

-- ---- the words of an atom of `:init`

short_word : (text : List ℕ) → is_short_name text ≡ true → is_word text ≡ true
short_word text h = name_is_word text (both_true (is_name text) _ h).0

variable_word : (text : List ℕ) → is_short_variable text ≡ true → is_word text ≡ true
variable_word [] h = cc
variable_word (b ∷ name) h =
    let parts = both_true (b == 63) (is_short_name name) h in
    true_both _ _ (ap (λ (n : ℕ). not (n == 32)) (eqb-true b 63 parts.0)) (short_word name parts.1)

argument_word : (a : Arg) → is_readable_argument a ≡ true → is_word (argument_text [] [] a) ≡ true
argument_word (Var n) h = variable_word n.text h
argument_word (Obj n) h = short_word n.text h

arguments_words : (args : List Arg) → list_all is_readable_argument args ≡ true → AreWords (map (argument_text [] []) args)
arguments_words [] h = refl
arguments_words (a ∷ args) h =
    let parts = both_true (is_readable_argument a) (list_all is_readable_argument args) h in
    true_both _ _ (argument_word a parts.0) (arguments_words args parts.1)

atom_words : (a : Atom) → is_readable_atom a ≡ true → AreWords (atom_of [] [] a)
atom_words a h =
    let parts = both_true (is_short_name a.head.text) (list_all is_readable_argument a.args) h in
    true_both _ _ (short_word a.head.text parts.0) (arguments_words a.args parts.1)

-- ---- texts and atoms

same_text : (head : List ℕ) (objects : List (List ℕ)) (a : Atom) → AreWords (head ∷ objects) → is_readable_atom a ≡ true
    → bytes_eq (text_of_atom (head ∷ objects)) (ground_text [] [] a) ≡ same_atom (head ∷ objects) (atom_of [] [] a)
unfolding ground_text
same_text head objects a words readable =
    let texts = bytes_eq-Decides (text_of_atom (head ∷ objects)) (ground_text [] [] a) in
    let atoms = pointwise_decides bytes_eq-Decides (head ∷ objects) (atom_of [] [] a) in
    one_answer {P = head ∷ objects ≡ atom_of [] [] a} _ _
    (λ t. same_words head objects a.head.text (map (argument_text [] []) a.args) words (atom_words a readable) (texts.0 t), λ e. texts.1 (ap text_of_atom e))
    atoms

module _ (head : List ℕ) (objects : List (List ℕ)) (words : AreWords (head ∷ objects)) where
  any_fact : (facts : List Atom) → list_all is_readable_atom facts ≡ true
      → is_text_among (text_of_atom (head ∷ objects)) (map (ground_text [] []) facts) ≡ list_any (λ a. same_atom (head ∷ objects) (atom_of [] [] a)) facts
  any_fact [] h = refl
  any_fact (a ∷ facts) h =
      let parts = both_true (is_readable_atom a) (list_all is_readable_atom facts) h in
      ap₂ (λ (s t : Bool). s || t) (same_text head objects a words parts.0) (any_fact facts parts.1)

  first_value : (values : List (Atom × Decimal)) → list_all (λ (v : Atom × Decimal). is_readable_atom v.0) values ≡ true
      → finite.find text_cmp (text_of_atom (head ∷ objects)) (map (λ (v : Atom × Decimal). (ground_text [] [] v.0, trimmed v.1)) values)
      ≡ option_map (λ (v : Atom × Decimal). trimmed v.1) (find (λ (v : Atom × Decimal). same_atom (head ∷ objects) (atom_of [] [] v.0)) values)
  first_value [] h = refl
  first_value (v ∷ values) h =
      let parts = both_true (is_readable_atom v.0) (list_all (λ (u : Atom × Decimal). is_readable_atom u.0) values) h in
      ap₂ (λ (t : Bool) (rest : Option Decimal). cond t (Some (trimmed v.1)) rest)
      (sym (texts_ties (text_of_atom (head ∷ objects)) (ground_text [] [] v.0)) ∙ same_text head objects v.0 words parts.0) (first_value values parts.1)
      ∙ by_test (same_atom (head ∷ objects) (atom_of [] [] v.0))
    where
      by_test : (test : Bool) → cond test (Some (trimmed v.1)) (option_map (λ (u : Atom × Decimal). trimmed u.1) (find (λ (u : Atom × Decimal). same_atom (head ∷ objects) (atom_of [] [] u.0)) values))
          ≡ option_map (λ (u : Atom × Decimal). trimmed u.1) (cond test (Some v) (find (λ (u : Atom × Decimal). same_atom (head ∷ objects) (atom_of [] [] u.0)) values))
      by_test true = refl
      by_test false = refl

  module _ (p : Pair) where
    pub initial_fact : list_all is_readable_atom p.problem.facts ≡ true → set.contains (initial_world p).facts (text_of_atom (head ∷ objects)) ≡ is_true_at_first p (head ∷ objects)
    unfolding is_true_at_first
    initial_fact readable = in_listed (map (ground_text [] []) p.problem.facts) (text_of_atom (head ∷ objects)) ∙ any_fact p.problem.facts readable

    pub initial_value : list_all (λ (v : Atom × Decimal). is_readable_atom v.0) p.problem.values ≡ true
        → finite.get (initial_world p).values (text_of_atom (head ∷ objects)) ≡ value_at_first p (head ∷ objects)
    unfolding value_at_first
    initial_value readable =
        finite.get-from_entries texts_total (map (λ (v : Atom × Decimal). (ground_text [] [] v.0, trimmed v.1)) p.problem.values) (text_of_atom (head ∷ objects))
        ∙ first_value p.problem.values readable
