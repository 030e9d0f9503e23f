-- What is said of facts and fluents has no blank, and says one thing.
use Rattle.std.proofs.Common.{◌≡◌, ℕ, Bool, true, false, Option, Some, None, MatchOption, List, ◌++◌, inl, inr, codes, refl, sym, ap, subst, ◌∙◌, arith}
use Rattle.std.specs.Prelude.{option_map}
use Rattle.box_model.specs.declared.state_box.May.{May}
use Rattle.box_model.specs.declared.state_box.May.TheVariants.{True, False, Any}
use Rattle.cert_text.specs.declared.cert.Version.{Version}
use Rattle.cert_text.specs.Lines.{may_text, truth_text, part_text}
use Rattle.cert_reader.specs.Parts.{IsWithout, Kind}
use Rattle.cert_reader.specs.Spelling.{facts_of_box, fluents_of_box, facts_of_state, fluents_of_state}
use Rattle.cert_reader.specs.internal.Fronts.{EndsPart, IsUntold, IsFront, IsFirst}
use Rattle.cert_reader.proofs.InParts.{IsPlainKind, longer, same_said, cut_left}
use Rattle.cert_reader.proofs.Numbers.{decided, heads, interval_solid, interval_unique, number_solid, number_unique}

may_solid : (m : May) → IsWithout 32 (may_text m)
may_solid True = decided 32 (codes "true") refl
may_solid False = decided 32 (codes "false") refl
may_solid Any = decided 32 (codes "any") refl

may_unique : (m n : May) → may_text m ≡ may_text n → m ≡ n
may_unique True True e = refl
may_unique True False e = absurd (omega (arith, heads _ _ _ _ e))
may_unique True Any e = absurd (omega (arith, heads _ _ _ _ e))
may_unique False True e = absurd (omega (arith, heads _ _ _ _ e))
may_unique False False e = refl
may_unique False Any e = absurd (omega (arith, heads _ _ _ _ e))
may_unique Any True e = absurd (omega (arith, heads _ _ _ _ e))
may_unique Any False e = absurd (omega (arith, heads _ _ _ _ e))
may_unique Any Any e = refl

truth_solid : (t : Bool) → IsWithout 32 (truth_text t)
truth_solid true = decided 32 (codes "true") refl
truth_solid false = decided 32 (codes "false") refl

truth_unique : (t u : Bool) → truth_text t ≡ truth_text u → t ≡ u
truth_unique true true e = refl
truth_unique true false e = absurd (omega (arith, heads _ _ _ _ e))
truth_unique false true e = absurd (omega (arith, heads _ _ _ _ e))
truth_unique false false e = refl

pub box_facts_plain : (version : Version) → IsPlainKind (facts_of_box version)
box_facts_plain version = record {
  solid = λ name said may is. subst (IsWithout 32) (sym is) (may_solid may);
  unique = λ name said x y is same. may_unique x y (sym is ∙ same);
  lacks_one = λ x y h k. h.1 ∙ sym k.1;
}

pub box_fluents_plain : (version : Version) → IsPlainKind (fluents_of_box version)
box_fluents_plain version = record {
  solid = λ fluent said i is. interval_solid fluent.1 said i is;
  unique = λ fluent said i j is same. interval_unique fluent.1 said i j is same;
  lacks_one = λ x y h k. h.1 ∙ sym k.1;
}

pub state_facts_plain : IsPlainKind facts_of_state
state_facts_plain = record {
  solid = λ name said truth is. subst (IsWithout 32) (sym is) (truth_solid truth);
  unique = λ name said x y is same. truth_unique x y (sym is ∙ same);
  lacks_one = λ x y h k. absurd h;
}

pub state_fluents_plain : IsPlainKind fluents_of_state
state_fluents_plain = record {
  solid = λ fluent said n is. number_solid fluent.1 said n is;
  unique = λ fluent said n m is same. number_unique fluent.1 said n m is same;
  lacks_one = λ x y h k. absurd h;
}

-- ---- the first thing that a line tells

module _ {N X : Type 0} (k : Kind N X) where
  -- what is said of the name says nothing of its kind
  pub says_nothing : IsPlainKind k → (n : N) (line said rest : List ℕ) → line ≡ part_text (k.name n) said ++ rest → IsWithout 32 said → EndsPart rest
      → ((x : X) → k.Said n said x → ⊥) → (x : X) (behind : List ℕ) → IsFront k n line x behind → ⊥
  says_nothing plain n line said rest is solid ends none x behind (inl (words, spelled, says, stops)) =
      let whole : part_text (k.name n) (said ++ rest) ≡ part_text (k.name n) (words ++ behind) =
      sym (longer (k.name n) said rest) ∙ sym is ∙ spelled ∙ longer (k.name n) words behind in
      let same : said ≡ words = cut_left said words rest behind solid (plain.solid n words x says) ends stops (same_said (k.name n) (said ++ rest) (words ++ behind) whole) in
      none x (subst (λ (w : List ℕ). k.Said n w x) (sym same) says)
  says_nothing plain n line said rest is solid ends none x behind (inr (lacks, same, untold)) =
      untold (said ++ rest) (is ∙ longer (k.name n) said rest)

  -- the line doesn't go on with the name, and it must
  pub must_be_told : (n : N) (line : List ℕ) → IsUntold (k.name n) line → ((x : X) → k.MayLack x → ⊥) → (x : X) (behind : List ℕ) → IsFront k n line x behind → ⊥
  must_be_told n line untold must x behind (inl (said, spelled, says, ends)) = untold (said ++ behind) (spelled ∙ longer (k.name n) said behind)
  must_be_told n line untold must x behind (inr (lacks, same, hidden)) = must x lacks

  -- an answer on what is said of the name
  pub told_first : IsPlainKind k → (n : N) (line said rest : List ℕ) → (line ≡ part_text (k.name n) said ++ rest) × IsWithout 32 said × EndsPart rest
      → {T : Type 0} (f : T → X × List ℕ) (r : Option T) → MatchOption r ((x : X) → k.Said n said x → ⊥) (λ q. k.Said n said (f q).0 × ((f q).1 ≡ rest))
      → IsFirst k n line (option_map f r)
  told_first plain n line said rest is f None h = says_nothing plain n line said rest is.0 is.1 is.2 h
  told_first plain n line said rest is f (Some q) h =
      inl (said, is.0 ∙ ap (λ (b : List ℕ). part_text (k.name n) said ++ b) (sym h.1), h.0, subst EndsPart (sym h.1) is.2)

  -- an answer where the line doesn't go on with the name
  pub untold_first : (n : N) (line : List ℕ) → IsUntold (k.name n) line
      → {T : Type 0} (f : T → X × List ℕ) (r : Option T) → MatchOption r ((x : X) → k.MayLack x → ⊥) (λ q. k.MayLack (f q).0 × ((f q).1 ≡ line))
      → IsFirst k n line (option_map f r)
  untold_first n line untold f None h = must_be_told n line untold h
  untold_first n line untold f (Some q) h = inr (h.0, sym h.1, untold)

-- ---- words by code

pub no_may : (said : List ℕ) → (said ≡ codes "true" → ⊥) → (said ≡ codes "false" → ⊥) → (said ≡ codes "any" → ⊥) → (may : May) → said ≡ may_text may → ⊥
no_may said is_true is_false is_any True h = is_true h
no_may said is_true is_false is_any False h = is_false h
no_may said is_true is_false is_any Any h = is_any h

pub no_truth : (said : List ℕ) → (said ≡ codes "true" → ⊥) → (said ≡ codes "false" → ⊥) → (truth : Bool) → said ≡ truth_text truth → ⊥
no_truth said is_true is_false true h = is_true h
no_truth said is_true is_false false h = is_false h
