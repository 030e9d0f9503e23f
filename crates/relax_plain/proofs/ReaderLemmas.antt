-- Steps that note an action's number, and the lists after the last action.
use Rattle.std.proofs.Common.{◌≡◌, ℕ, zero, suc, ◌+◌, ◌<◌, ◌⊎◌, ◌==◌, ◌||◌, ◌++◌, Bool, true, false, List, [], ◌∷◌, Some, length, get_or, set, take, replicate, slice_get, sym, refl, ap, ◌∙◌, subst, inl, inr, arith, eqb-true, add-one, length-append, length-set}
use Rattle.std.specs.List.{list_any, IsAmong}
use Rattle.std.proofs.lemmas.Bool.{and_parts, or_cases, cases_eq, cases_lt}
use Rattle.std.proofs.lemmas.List.{get_or_append_left, get_or-set_same, get_or-set_other}
use Rattle.std.proofs.Math.Seq.{get_or-append_seam}
use Rattle.ground_task.specs.Tasks.{TaskValue}
use Rattle.ground_task.specs.declared.raw.Ground.{Ground}
use Rattle.box_model.proofs.CapLemmas.{some_same}
use Rattle.num_ends.specs.Decimal.{Decimal}
use Rattle.ground_task.specs.Valid.{is_known_expression, known_expression_layer}
use Rattle.ground_task.proofs.Trees.{fold-Add, fold-Cmp, fold-Const, fold-Mul, fold-Read, fold-Sub}
use Rattle.ground_task.specs.declared.raw.Change.{Change}
use Rattle.ground_task.specs.declared.raw.Change.TheVariants.{Set}
use Rattle.ground_task.specs.declared.raw.Rel.{Rel}
use Rattle.ground_task.specs.declared.raw.GExpr.{GExpr}
use Rattle.ground_task.specs.declared.raw.GExpr.TheVariants as x
use Rattle.ground_task.specs.declared.raw.GCond.{GCond}
use Rattle.ground_task.specs.declared.raw.GCond.TheVariants as y
use Rattle.relax_plain.proofs.SameReads.{asks-And, asks-Or, compares-And, compares-Or}
use Rattle.relax_plain.specs.Reads.{asks, compares, compares_layer, depends_on_fluent, is_used, reads, reads_layer, AreReadersBelow, IsNoted}

pub noted_none : (number : ℕ) (test : ℕ → Bool) (lists : List (List ℕ)) → ((at : ℕ) → test at ≡ false) → IsNoted number test lists lists
noted_none number test lists none =
    record { as_many = refl; kept = λ at other h. h; noted = λ at h k. no (test at) (none at) k; only = λ at other h. inl h }
  where
    no : {P : Type 0} (v : Bool) → v ≡ false → v ≡ true → P
    no true f t = cc
    no false f t = cc

pub noted_both : (number : ℕ) (p q : ℕ → Bool) (a b c : List (List ℕ)) → IsNoted number p a b → IsNoted number q b c → IsNoted number (λ x. p x || q x) a c
noted_both number p q a b c h k =
    record {
      as_many = k.as_many ∙ h.as_many;
      kept = λ at other is. k.kept at other (h.kept at other is);
      noted = λ at l is. elim (or_cases (p at) (q at) is) [
        | inl first ↦ k.kept at number (h.noted at l first)
        | inr second ↦ k.noted at (subst (λ (n : ℕ). at < n) (sym h.as_many) l) second
      ];
      only = λ at other is. elim (k.only at other is) [ inl was ↦ h.only at other was | inr new ↦ inr new ];
    }

pub noted_same : (number : ℕ) (p q : ℕ → Bool) (a b : List (List ℕ)) → ((x : ℕ) → q x ≡ p x) → IsNoted number p a b → IsNoted number q a b
noted_same number p q a b same h =
    record { as_many = h.as_many; kept = h.kept; noted = λ at l is. h.noted at l (sym (same at) ∙ is); only = h.only }

-- the number was the last of its list
pub noted_there : (lists : List (List ℕ)) (at number : ℕ) → IsAmong (get_or lists at []) number → IsNoted number (λ x. at == x) lists lists
noted_there lists at number here =
    record {
      as_many = refl;
      kept = λ x other h. h;
      noted = λ x l is. subst (λ (k : ℕ). IsAmong (get_or lists k []) number) (eqb-true at x is) here;
      only = λ x other h. inl h;
    }

among_more : (xs : List ℕ) (y v : ℕ) → IsAmong xs v → IsAmong (xs ++ (y ∷ [])) v
among_more xs y v (i, (h, is)) = (i, (omega (arith, length-append xs (y ∷ [])), is ∙ sym (get_or_append_left xs (y ∷ []) v i h)))

among_last : (xs : List ℕ) (y : ℕ) → IsAmong (xs ++ (y ∷ [])) y
among_last xs y = (length xs, (omega (arith, length-append xs (y ∷ [])), sym (get_or-append_seam xs y [] y)))

among_less : (xs : List ℕ) (y v : ℕ) → IsAmong (xs ++ (y ∷ [])) v → IsAmong xs v ⊎ (v ≡ y)
among_less xs y v (i, (h, is)) =
    elim (cases_lt i (length xs)) [
      | inl l ↦ inl (i, (l, is ∙ get_or_append_left xs (y ∷ []) v i l))
      | inr l ↦
          let e : i ≡ length xs = omega (arith, length-append xs (y ∷ [])) in
          inr (is ∙ ap (λ (k : ℕ). get_or (xs ++ (y ∷ [])) k v) e ∙ get_or-append_seam xs y [] v)
    ]

pub noted_push : (lists : List (List ℕ)) (at number : ℕ) (l : List ℕ) → at < length lists → l ≡ get_or lists at [] ++ (number ∷ []) → IsNoted number (λ x. at == x) lists (set lists at l)
noted_push lists at number l known is =
    let here : get_or (set lists at l) at [] ≡ get_or lists at [] ++ (number ∷ []) = get_or-set_same lists at l [] known ∙ is in
    record {
      as_many = length-set lists at l;
      kept = λ x other h. elim (cases_eq x at) [
        | inl e ↦ subst (λ (k : ℕ). IsAmong (get_or (set lists at l) k []) other) (sym e)
            (subst (λ xs. IsAmong xs other) (sym here) (among_more (get_or lists at []) number other (subst (λ (k : ℕ). IsAmong (get_or lists k []) other) e h)))
        | inr n ↦ subst (λ xs. IsAmong xs other) (sym (get_or-set_other lists at x l [] n)) h
      ];
      noted = λ x k t. subst (λ (k : ℕ). IsAmong (get_or (set lists at l) k []) number) (eqb-true at x t) (subst (λ xs. IsAmong xs number) (sym here) (among_last (get_or lists at []) number));
      only = λ x other h. elim (cases_eq x at) [
        | inl e ↦
            elim (among_less (get_or lists at []) number other (subst (λ xs. IsAmong xs other) here (subst (λ (k : ℕ). IsAmong (get_or (set lists at l) k []) other) e h))) [
              | inl was ↦ inl (subst (λ (k : ℕ). IsAmong (get_or lists k []) other) (sym e) was)
              | inr new ↦ inr new
            ]
        | inr n ↦ inl (subst (λ xs. IsAmong xs other) (get_or-set_other lists at x l [] n) h)
      ];
    }

any_more : {X : Type 0} (test : X → Bool) (xs : List X) (i : ℕ) (d : X) → i < length xs → list_any test (take (suc i) xs) ≡ (list_any test (take i xs) || test (get_or xs i d))
any_more test [] i d h = absurd (omega arith)
any_more test (x ∷ xs) zero d h = or_none (test x)
  where
    or_none : (v : Bool) → (v || false) ≡ v
    or_none true = refl
    or_none false = refl
any_more test (x ∷ xs) (suc i) d h = ap (λ (v : Bool). test x || v) (any_more test xs i d (omega arith)) ∙ or_assoc (test x) (list_any test (take i xs)) (test (get_or xs i d))
  where
    or_assoc : (u v w : Bool) → (u || (v || w)) ≡ ((u || v) || w)
    or_assoc true v w = refl
    or_assoc false v w = refl

-- one more of a list
pub noted_more : {X : Type 0} (number : ℕ) (test : ℕ → X → Bool) (xs : List X) (i : ℕ) (d : X) (a b c : List (List ℕ)) → i < length xs →
    IsNoted number (λ x. list_any (test x) (take i xs)) a b → IsNoted number (λ x. test x (get_or xs i d)) b c → IsNoted number (λ x. list_any (test x) (take (i + 1) xs)) a c
noted_more number test xs i d a b c h old new =
    noted_same number (λ x. list_any (test x) (take i xs) || test x (get_or xs i d)) (λ x. list_any (test x) (take (i + 1) xs)) a c (λ x. ap (λ (k : ℕ). list_any (test x) (take k xs)) (add-one i) ∙ any_more (test x) xs i d h)
    (noted_both number (λ x. list_any (test x) (take i xs)) (λ x. test x (get_or xs i d)) a b c old new)

-- ---- the readers

no_among : (n at : ℕ) (v : ℕ) → IsAmong (get_or (replicate n []) at []) v → ⊥
no_among zero at v (i, (h, is)) = absurd (omega arith)
no_among (suc n) zero v (i, (h, is)) = absurd (omega arith)
no_among (suc n) (suc at) v h = no_among n at v h

length_replicate : (n : ℕ) → length (replicate {A = List ℕ} n []) ≡ n
length_replicate zero = refl
length_replicate (suc n) = ap suc (length_replicate n)

pub readers_start : (t : TaskValue) (facts fluents : List (List ℕ)) → facts ≡ replicate (length t.raw.facts) [] → fluents ≡ replicate (length t.raw.fluents) [] → AreReadersBelow t 0 facts fluents
readers_start t facts fluents e f =
    record {
      a_list_each_fact = ap length e ∙ length_replicate (length t.raw.facts);
      a_list_each_fluent = ap length f ∙ length_replicate (length t.raw.fluents);
      known_in_facts = λ at v h. absurd (no_among (length t.raw.facts) at v (subst (λ ls. IsAmong (get_or ls at []) v) e h));
      known_in_fluents = λ at v h. absurd (no_among (length t.raw.fluents) at v (subst (λ ls. IsAmong (get_or ls at []) v) f h));
      of_facts = λ at number a h k. absurd (omega arith);
      of_fluents = λ at number a h k. absurd (omega arith);
    }

pub readers_more : (t : TaskValue) (number : ℕ) (a : Ground) (facts fluents facts' fluents' : List (List ℕ)) → number < length t.raw.actions → slice_get t.raw.actions number ≡ Some a → AreReadersBelow t number facts fluents →
    IsNoted number (λ f. asks f a.pre) facts facts' → IsNoted number (λ x. depends_on_fluent x a) fluents fluents' → AreReadersBelow t (number + 1) facts' fluents'
readers_more t number a facts fluents facts' fluents' known at old h k =
    record {
      a_list_each_fact = h.as_many ∙ old.a_list_each_fact;
      a_list_each_fluent = k.as_many ∙ old.a_list_each_fluent;
      known_in_facts = λ f v is. elim (h.only f v is) [ inl was ↦ old.known_in_facts f v was | inr new ↦ subst (λ (n : ℕ). n < length t.raw.actions) (sym new) known ];
      known_in_fluents = λ x v is. elim (k.only x v is) [ inl was ↦ old.known_in_fluents x v was | inr new ↦ subst (λ (n : ℕ). n < length t.raw.actions) (sym new) known ];
      of_facts = λ f other g l below there reads. elim (cases_eq other number) [
        | inl e ↦ subst (λ (n : ℕ). IsAmong (get_or facts' f []) n) (sym e)
            (h.noted f (subst (λ (n : ℕ). f < n) (sym old.a_list_each_fact) l)
            (subst (λ (c : Ground). asks f c.pre ≡ true) (some_same g a (sym there ∙ ap (slice_get t.raw.actions) e ∙ at)) reads))
        | inr n ↦ h.kept f other (old.of_facts f other g l (omega arith) there reads)
      ];
      of_fluents = λ x other g l below there reads. elim (cases_eq other number) [
        | inl e ↦ subst (λ (n : ℕ). IsAmong (get_or fluents' x []) n) (sym e)
            (k.noted x (subst (λ (n : ℕ). x < n) (sym old.a_list_each_fluent) l)
            (subst (λ (c : Ground). depends_on_fluent x c ≡ true) (some_same g a (sym there ∙ ap (slice_get t.raw.actions) e ∙ at)) reads))
        | inr n ↦ k.kept x other (old.of_fluents x other g l (omega arith) there reads)
      ];
    }

-- ---- expressions and conditions, one variant each

pub noted_const : (number : ℕ) (d : Decimal) (e : GExpr) (lists : List (List ℕ)) → e ≡ x.Const d → IsNoted number (λ z. reads z e) lists lists
noted_const number d e lists is = noted_none number (λ z. reads z e) lists (λ z. ap (reads z) is ∙ fold-Const (reads_layer z) d)

pub noted_read : (number : ℕ) (at : ℕ) (e : GExpr) (a b : List (List ℕ)) → e ≡ x.Read at → IsNoted number (λ z. at == z) a b → IsNoted number (λ z. reads z e) a b
noted_read number at e a b is h = noted_same number (λ z. at == z) (λ z. reads z e) a b (λ z. ap (reads z) is ∙ fold-Read (reads_layer z) at) h

module _ (number : ℕ) (c d e : GExpr) (a b : List (List ℕ)) (h : IsNoted number (λ z. reads z c || reads z d) a b) where
  pub noted_sum : e ≡ x.Add c d → IsNoted number (λ z. reads z e) a b
  noted_sum is = noted_same number (λ z. reads z c || reads z d) (λ z. reads z e) a b (λ z. ap (reads z) is ∙ fold-Add (reads_layer z) c d) h

  pub noted_difference : e ≡ x.Sub c d → IsNoted number (λ z. reads z e) a b
  noted_difference is = noted_same number (λ z. reads z c || reads z d) (λ z. reads z e) a b (λ z. ap (reads z) is ∙ fold-Sub (reads_layer z) c d) h

  pub noted_product : e ≡ x.Mul c d → IsNoted number (λ z. reads z e) a b
  noted_product is = noted_same number (λ z. reads z c || reads z d) (λ z. reads z e) a b (λ z. ap (reads z) is ∙ fold-Mul (reads_layer z) c d) h

  pub noted_comparison : (r : Rel) (g : GCond) → g ≡ y.Cmp r c d → IsNoted number (λ z. compares z g) a b
  noted_comparison r g is = noted_same number (λ z. reads z c || reads z d) (λ z. compares z g) a b (λ z. ap (compares z) is ∙ fold-Cmp (compares_layer z) r c d) h

module _ (number : ℕ) (g : GCond) (cs : List GCond) (a b : List (List ℕ)) where
  pub noted_and : g ≡ y.And cs → IsNoted number (λ z. list_any (compares z) cs) a b → IsNoted number (λ z. compares z g) a b
  noted_and is h = noted_same number (λ z. list_any (compares z) cs) (λ z. compares z g) a b (λ z. ap (compares z) is ∙ compares-And z cs) h

  pub noted_or : g ≡ y.Or cs → IsNoted number (λ z. list_any (compares z) cs) a b → IsNoted number (λ z. compares z g) a b
  noted_or is h = noted_same number (λ z. list_any (compares z) cs) (λ z. compares z g) a b (λ z. ap (compares z) is ∙ compares-Or z cs) h

  pub asked_and : g ≡ y.And cs → IsNoted number (λ z. list_any (asks z) cs) a b → IsNoted number (λ z. asks z g) a b
  asked_and is h = noted_same number (λ z. list_any (asks z) cs) (λ z. asks z g) a b (λ z. ap (asks z) is ∙ asks-And z cs) h

  pub asked_or : g ≡ y.Or cs → IsNoted number (λ z. list_any (asks z) cs) a b → IsNoted number (λ z. asks z g) a b
  asked_or is h = noted_same number (λ z. list_any (asks z) cs) (λ z. asks z g) a b (λ z. ap (asks z) is ∙ asks-Or z cs) h

pub noted_set : (number : ℕ) (effect : ℕ × Change) (e : GExpr) (a b : List (List ℕ)) → effect.1 ≡ Set e → IsNoted number (λ z. (effect.0 == z) || reads z e) a b → IsNoted number (λ z. is_used z effect) a b
noted_set number (at, change) e a b is h = noted_same number (λ z. (at == z) || reads z e) (λ z. is_used z (at, change)) a b (λ z. ap (λ (c : Change). is_used z (at, c)) is) h

pub known_in_Add : (n : ℕ) (c d e : GExpr) → e ≡ x.Add c d → is_known_expression n e ≡ true → is_known_expression n d ≡ true
known_in_Add n c d e is h = (and_parts (is_known_expression n c) _ (sym (ap (is_known_expression n) is ∙ fold-Add (known_expression_layer n) c d) ∙ h)).1

pub known_in_Sub : (n : ℕ) (c d e : GExpr) → e ≡ x.Sub c d → is_known_expression n e ≡ true → is_known_expression n d ≡ true
known_in_Sub n c d e is h = (and_parts (is_known_expression n c) _ (sym (ap (is_known_expression n) is ∙ fold-Sub (known_expression_layer n) c d) ∙ h)).1

pub known_in_Mul : (n : ℕ) (c d e : GExpr) → e ≡ x.Mul c d → is_known_expression n e ≡ true → is_known_expression n d ≡ true
known_in_Mul n c d e is h = (and_parts (is_known_expression n c) _ (sym (ap (is_known_expression n) is ∙ fold-Mul (known_expression_layer n) c d) ∙ h)).1
