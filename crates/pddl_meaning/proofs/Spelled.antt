-- How the texts of atoms are put together.
use Rattle.std.proofs.Common.{◌≡◌, ℕ, zero, suc, ◌+◌, ◌<◌, ◌≤◌, ◌++◌, false, List, [], ◌∷◌, map, length, drop, refl, sym, ap, ◌∙◌, arith, slice_index_or}
use Rattle.std.specs.Prelude.{flat_map, bytes_eq}
use Rattle.std.specs.List.{join_with_byte}
use Rattle.pddl_terms.specs.declared.names.Arg.{Arg}
use Rattle.pddl_terms.specs.declared.names.Atom.{Atom}
use Rattle.pddl_terms.specs.declared.names.Typed.{Typed}
use Rattle.pddl_terms.specs.Texts.{argument_text, ground_text, variable_text}

-- a parameter of another name is passed over
step_by_suc : (params : List Typed) (args : List (List ℕ)) (v : List ℕ) (n : ℕ) (d : Typed) → n < length params → n < length args
    → bytes_eq v (slice_index_or params n d).name.text ≡ false → variable_text (drop (suc n) params) (drop (suc n) args) v ≡ variable_text (drop n params) (drop n args) v
step_by_suc [] args v n d h k other = absurd (omega arith)
step_by_suc (p ∷ params) [] v n d h k other = absurd (omega arith)
step_by_suc (p ∷ params) (a ∷ args) v zero d h k other = rw other refl
step_by_suc (p ∷ params) (a ∷ args) v (suc n) d h k other = step_by_suc params args v n d (omega arith) (omega arith) other

pub passed_over : (params : List Typed) (args : List (List ℕ)) (v : List ℕ) (n : ℕ) (d : Typed) → n < length params → n < length args
    → bytes_eq v (slice_index_or params n d).name.text ≡ false → variable_text (drop (n + 1) params) (drop (n + 1) args) v ≡ variable_text (drop n params) (drop n args) v
passed_over params args v n d h k other =
    let next : n + 1 ≡ suc n = omega arith in
    ap (λ (i : ℕ). variable_text (drop i params) (drop i args) v) next ∙ step_by_suc params args v n d h k other

without_args : (params : List Typed) (v : List ℕ) → variable_text params [] v ≡ v
without_args [] v = refl
without_args (p ∷ params) v = refl

-- a variable past the last argument stands for itself
pub past_args : (params : List Typed) (args : List (List ℕ)) (v : List ℕ) (n : ℕ) → length args ≤ n → variable_text (drop n params) (drop n args) v ≡ v
past_args params [] v zero h = without_args params v
past_args params [] v (suc n) h = without_args (drop (suc n) params) v
past_args params (a ∷ args) v zero h = absurd (omega arith)
past_args [] (a ∷ args) v (suc n) h = refl
past_args (p ∷ params) (a ∷ args) v (suc n) h = past_args params args v n (omega arith)

joined_arguments : (text : Arg → List ℕ) (x : List ℕ) (args : List Arg) → join_with_byte 32 (x ∷ map text args) ≡ x ++ flat_map (λ a. 32 ∷ text a) args
joined_arguments text x [] = sym (append_nil x)
  where
    append_nil : (xs : List ℕ) → xs ++ [] ≡ xs
    append_nil [] = refl
    append_nil (y ∷ ys) = ap (λ (zs : List ℕ). y ∷ zs) (append_nil ys)
joined_arguments text x (a ∷ args) = ap (λ (ys : List ℕ). x ++ (32 ∷ ys)) (joined_arguments text (text a) args)

-- the text of an atom by its parts
pub spelled : (params : List Typed) (args : List (List ℕ)) (a : Atom)
    → (40 ∷ (a.head.text ++ flat_map (λ b. 32 ∷ argument_text params args b) a.args)) ++ 41 ∷ [] ≡ ground_text params args a
unfolding ground_text
spelled params args a = ap (λ (ys : List ℕ). 40 ∷ (ys ++ 41 ∷ [])) (sym (joined_arguments (argument_text params args) a.head.text a.args))
