-- The atoms of the codes of a pair.
use Rattle.std.proofs.Common.{◌≡◌, ◌<◌, ◌∙◌, ℕ, zero, suc, List, [], ◌∷◌, inl, inr, length, refl, sym, ap, ap₂, subst, arith, slice_index_or}
use Rattle.std.specs.Prelude.{Err, IfOk, Ok, Result}
use Rattle.pddl_terms.specs.declared.names.Sig.{Sig}
use Rattle.pddl_terms.specs.Readable.{IsReadable}
use Rattle.pddl_types.specs.declared.pairs.Pair.{Pair}
use Rattle.pddl_types.specs.Pairs.{objects_of}
use Rattle.pddl_types.specs.WellFormed.{Each, Stands, WellFormed}
use Rattle.static_facts.specs.Atoms.{fact_atom, fluent_atom, head_text}
use Rattle.static_facts.specs.Codes.{code_of, fact_code, fluent_code}
use Rattle.ground_meaning.specs.Tasks.{IsFact, IsFluent}
use Rattle.ground_meaning.proofs.CodeNumbers.{fact_numbers, fluent_numbers}
use Rattle.ground_meaning.proofs.DecodedAtoms.{objects_codable}
use Rattle.ground_meaning.proofs.KeptAtoms.{IsCodeOf}
use Rattle.ground_meaning.proofs.Lists.{each_of_all}
use Rattle.grounder.specs.internal.Decoded.{fact_of, fluent_of, objects_in, symbol_of}
use Rattle.grounder.proofs.Digits.{read_code}

-- the name of a declared predicate or function
pub head_there : (sigs : List Sig) (n : ℕ) (s : Sig) → n < length sigs → s ≡ slice_index_or sigs n s → s.name.text ≡ head_text sigs n
head_there [] n s below h = absurd (omega (arith, below))
head_there (x ∷ sigs) zero s below h = ap (λ (u : Sig). u.name.text) h
head_there (x ∷ sigs) (suc n) s below h = head_there sigs n s (omega (arith, below)) h

pub index_stands : (xs : List ℕ) (i : ℕ) → i < length xs → Stands (slice_index_or xs i 0) xs
index_stands [] i below = absurd (omega (arith, below))
index_stands (x ∷ xs) zero below = inl refl
index_stands (x ∷ xs) (suc i) below = inr (index_stands xs i (omega (arith, below)))

pub item_stands : (xs : List ℕ) (i x : ℕ) → i < length xs → x ≡ slice_index_or xs i x → Stands x xs
item_stands [] i x below h = absurd (omega (arith, below))
item_stands (y ∷ xs) zero x below h = inl h
item_stands (y ∷ xs) (suc i) x below h = inr (item_stands xs i x (omega (arith, below)) h)

pub if_ok : {A B : Type 0} (r : Result A B) (P Q : A → Type 0) → ((x : A) → P x → Q x) → IfOk r P → IfOk r Q
if_ok (Ok x) P Q more h = more x h
if_ok (Err e) P Q more h = h

module _ (p : Pair) (readable : IsReadable p.domain p.problem) (formed : WellFormed p) where
  module _ (code : ℕ) (is : IsCodeOf (IsFact p) (fact_code p) code) where
    fact_parts : (symbol_of code ≡ is.is_atom.symbol) × (objects_in code ≡ is.is_atom.objects)
    fact_parts =
        let own = is.is_atom in
        let made : code_of own.symbol own.objects ≡ code =
        sym (fact_numbers p readable formed own.symbol own.objects own.declared own.known) ∙ ap (fact_code p) (sym own.is) ∙ is.coded in
        let read = read_code own.symbol own.objects (objects_codable p readable own.objects own.few own.known) in
        (ap symbol_of (sym made) ∙ read.0, ap objects_in (sym made) ∙ read.1)

    pub fact_symbol : symbol_of code < length p.domain.predicates
    fact_symbol = subst (λ (n : ℕ). n < length p.domain.predicates) (sym fact_parts.0) is.is_atom.declared

    pub fact_objects : Each (λ o. o < length (objects_of p)) (objects_in code)
    fact_objects =
        subst (λ (os : List ℕ). Each (λ o. o < length (objects_of p)) os) (sym fact_parts.1)
        (each_of_all (λ o. o < length (objects_of p)) is.is_atom.objects is.is_atom.known)

    fact_same : is.atom ≡ fact_of p code
    fact_same = is.is_atom.is ∙ ap₂ (fact_atom p) (sym fact_parts.0) (sym fact_parts.1)

    pub fact_there : IsFact p (fact_of p code)
    fact_there = subst (IsFact p) fact_same is.is_atom

    pub fact_again : fact_code p (fact_of p code) ≡ code
    fact_again = ap (fact_code p) (sym fact_same) ∙ is.coded

  module _ (code : ℕ) (is : IsCodeOf (IsFluent p) (fluent_code p) code) where
    fluent_parts : (symbol_of code ≡ is.is_atom.symbol) × (objects_in code ≡ is.is_atom.objects)
    fluent_parts =
        let own = is.is_atom in
        let made : code_of own.symbol own.objects ≡ code =
        sym (fluent_numbers p readable formed own.symbol own.objects own.declared own.known) ∙ ap (fluent_code p) (sym own.is) ∙ is.coded in
        let read = read_code own.symbol own.objects (objects_codable p readable own.objects own.few own.known) in
        (ap symbol_of (sym made) ∙ read.0, ap objects_in (sym made) ∙ read.1)

    pub fluent_symbol : symbol_of code < length p.domain.functions
    fluent_symbol = subst (λ (n : ℕ). n < length p.domain.functions) (sym fluent_parts.0) is.is_atom.declared

    pub fluent_objects : Each (λ o. o < length (objects_of p)) (objects_in code)
    fluent_objects =
        subst (λ (os : List ℕ). Each (λ o. o < length (objects_of p)) os) (sym fluent_parts.1)
        (each_of_all (λ o. o < length (objects_of p)) is.is_atom.objects is.is_atom.known)

    fluent_same : is.atom ≡ fluent_of p code
    fluent_same = is.is_atom.is ∙ ap₂ (fluent_atom p) (sym fluent_parts.0) (sym fluent_parts.1)

    pub fluent_there : IsFluent p (fluent_of p code)
    fluent_there = subst (IsFluent p) fluent_same is.is_atom

    pub fluent_again : fluent_code p (fluent_of p code) ≡ code
    fluent_again = ap (fluent_code p) (sym fluent_same) ∙ is.coded
