-- Symbols by the numbers of their names.
use Rattle.std.proofs.Common.{◌≡◌, ℕ, Bool, true, List, Option, Some, None, sym, ap, ap₂, ◌∙◌, is_some}
use Rattle.std.specs.Prelude.{unwrap_or}
use Rattle.name_table.specs.Tables.{place_in}
use Rattle.pddl_types.specs.declared.pairs.Pair.{Pair}
use Rattle.pddl_types.specs.Pairs.{heads_of}
use Rattle.pddl_types.specs.WellFormed.{WellFormed}
use Rattle.static_facts.specs.Atoms.{head_text}
use Rattle.static_facts.specs.Fixed.{is_fixed_function, is_fixed_predicate}
use Rattle.static_facts.proofs.Named.{named_there}
use Rattle.bound_atoms.specs.declared.symbols.Symbol.{Symbol}
use Rattle.bound_atoms.specs.Symbols.{fact_symbol, fluent_symbol}
use Rattle.bound_atoms.proofs.Undeclared.{fixed_function, fixed_predicate}

abbrev symbol_by : Bool → Option ℕ → Symbol
symbol_by fixed place = record { number = unwrap_or place 0; declared = is_some place; fixed = fixed }

pub declared_predicate : (p statics : Pair) (head : List ℕ) (n : ℕ) (fixed : Bool) → Some n ≡ place_in head (heads_of p.domain.predicates) → statics ≡ p
    → fixed ≡ is_fixed_predicate statics (head_text statics.domain.predicates n) → symbol_by fixed (Some n) ≡ fact_symbol p head
declared_predicate p statics head n fixed e one h =
    ap₂ symbol_by
    (h ∙ ap (λ (q : Pair). is_fixed_predicate q (head_text q.domain.predicates n)) one ∙ ap (is_fixed_predicate p) (named_there head (heads_of p.domain.predicates) n (sym e))) e

pub undeclared_predicate : (p : Pair) (head : List ℕ) → WellFormed p → None ≡ place_in head (heads_of p.domain.predicates) → symbol_by true None ≡ fact_symbol p head
undeclared_predicate p head formed e = ap₂ symbol_by (sym (fixed_predicate p formed head (sym e))) e

pub declared_function : (p statics : Pair) (head : List ℕ) (n : ℕ) (fixed : Bool) → Some n ≡ place_in head (heads_of p.domain.functions) → statics ≡ p
    → fixed ≡ is_fixed_function statics (head_text statics.domain.functions n) → symbol_by fixed (Some n) ≡ fluent_symbol p head
declared_function p statics head n fixed e one h =
    ap₂ symbol_by
    (h ∙ ap (λ (q : Pair). is_fixed_function q (head_text q.domain.functions n)) one ∙ ap (is_fixed_function p) (named_there head (heads_of p.domain.functions) n (sym e))) e

pub undeclared_function : (p : Pair) (head : List ℕ) → WellFormed p → None ≡ place_in head (heads_of p.domain.functions) → symbol_by true None ≡ fluent_symbol p head
undeclared_function p head formed e = ap₂ symbol_by (sym (fixed_function p formed head (sym e))) e
