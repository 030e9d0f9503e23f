-- Which declarations are fixed, and that the empty text is no changed name.
use Rattle.std.proofs.Common.{◌≡◌, ◌||◌, ℕ, zero, suc, true, false, not, List, [], ◌∷◌, Option, map, refl, sym, ap, ◌∙◌, arith, is_some, slice_get}
use Rattle.std.specs.Prelude.{All, bytes_eq, flat_map, unwrap_or}
use Rattle.std.specs.List.{list_all}
use Rattle.std.proofs.lemmas.Bool.{and_parts}
use Rattle.pddl_terms.specs.declared.actions.Effect.{Effect}
use Rattle.pddl_terms.specs.declared.actions.Effect.TheVariants as effect
use Rattle.pddl_terms.specs.declared.actions.Schema.{Schema}
use Rattle.pddl_terms.specs.declared.names.Name.{Name}
use Rattle.pddl_terms.specs.declared.names.Sig.{Sig}
use Rattle.pddl_terms.specs.Readable.{IsReadableEffect, IsReadableSchema, is_readable_argument, is_short_name}
use Rattle.name_table.specs.Tables.{is_text_among, numbered, table_number}
use Rattle.name_table.proofs.Numbered.{number_is_place, some_place}
use Rattle.pddl_types.specs.Pairs.{changed_function, changed_heads}
use Rattle.pddl_types.specs.WellFormed.{Each}
use Rattle.pddl_types.proofs.Empties.{each_flat}
use Rattle.static_facts.specs.Atoms.{head_text}
use Rattle.static_facts.specs.Fixed.{changed_predicate, changed_predicate_heads}
use Rattle.static_facts.proofs.Keyed.{spelled_name}

pub each_of : {X : Type 0} (P : X → Type 0) (xs : List X) → All P xs → Each P xs
each_of P [] h = tt
each_of P (x ∷ xs) h = (h 0 x (omega arith), each_of P xs (λ k d l. h (suc k) d (omega arith)))

-- ---- flags

pub flags_fixed : (changed : List Name) (table : List (List ℕ × ℕ)) → table ≡ numbered changed → is_text_among [] (map (λ n. n.text) changed) ≡ false → (sigs : List Sig) (n : ℕ)
    → unwrap_or (slice_get (map (λ s. not (is_some (table_number s.name.text table))) sigs) n) true ≡ not (is_text_among (head_text sigs n) (map (λ n. n.text) changed))
flags_fixed changed table is none [] n = sym (ap not none)
flags_fixed changed table is none (s ∷ sigs) zero =
    ap (λ (t : List (List ℕ × ℕ)). not (is_some (table_number s.name.text t))) is
    ∙ ap (λ (x : Option ℕ). not (is_some x)) (number_is_place s.name.text changed)
    ∙ ap not (some_place s.name.text changed)
flags_fixed changed table is none (s ∷ sigs) (suc n) = flags_fixed changed table is none sigs n

-- ---- changed names are names

abbrev pub IsNamed : Name → Type 0
IsNamed n = is_short_name n.text ≡ true

no_empty : (ns : List Name) → Each IsNamed ns → is_text_among [] (map (λ n. n.text) ns) ≡ false
no_empty [] h = refl
no_empty (n ∷ ns) h =
    let spelled = spelled_name n.text h.0 in
    ap (λ (t : List ℕ). bytes_eq [] t || is_text_among [] (map (λ n. n.text) ns)) spelled.is ∙ no_empty ns h.1

predicates_named : (e : Effect) → IsReadableEffect e → Each IsNamed (changed_predicate e)
predicates_named (effect.Add a) h = ((and_parts (is_short_name a.head.text) (list_all is_readable_argument a.args) h).0, tt)
predicates_named (effect.Del a) h = ((and_parts (is_short_name a.head.text) (list_all is_readable_argument a.args) h).0, tt)
predicates_named (effect.Num how a e) h = tt

functions_named : (e : Effect) → IsReadableEffect e → Each IsNamed (changed_function e)
functions_named (effect.Add a) h = tt
functions_named (effect.Del a) h = tt
functions_named (effect.Num how a e) h = ((and_parts (is_short_name a.head.text) (list_all is_readable_argument a.args) h.0).0, tt)

each_named : (names : Effect → List Name) → ((e : Effect) → IsReadableEffect e → Each IsNamed (names e)) → (es : List Effect) → Each IsReadableEffect es → Each (λ e. Each IsNamed (names e)) es
each_named names f [] h = tt
each_named names f (e ∷ es) h = (f e h.0, each_named names f es h.1)

all_named : (names : Effect → List Name) → ((e : Effect) → IsReadableEffect e → Each IsNamed (names e)) → (schemas : List Schema) → Each IsReadableSchema schemas
    → Each (λ s. Each IsNamed (flat_map names s.effects)) schemas
all_named names f [] h = tt
all_named names f (s ∷ schemas) h = ((each_flat IsNamed names s.effects).1 (each_named names f s.effects (each_of IsReadableEffect s.effects h.0.effects)), all_named names f schemas h.1)

pub no_empty_predicate : (schemas : List Schema) → All IsReadableSchema schemas → is_text_among [] (map (λ n. n.text) (changed_predicate_heads schemas)) ≡ false
no_empty_predicate schemas h =
    no_empty (changed_predicate_heads schemas)
    ((each_flat IsNamed (λ s. flat_map changed_predicate s.effects) schemas).1 (all_named changed_predicate predicates_named schemas (each_of IsReadableSchema schemas h)))

pub no_empty_function : (schemas : List Schema) → All IsReadableSchema schemas → is_text_among [] (map (λ n. n.text) (changed_heads schemas)) ≡ false
no_empty_function schemas h =
    no_empty (changed_heads schemas)
    ((each_flat IsNamed (λ s. flat_map changed_function s.effects) schemas).1 (all_named changed_function functions_named schemas (each_of IsReadableSchema schemas h)))
