-- The box and the state of a line.
use Rattle.std.proofs.Common.{◌≡◌, ◌≢◌, ℕ, ◌<◌, ℤ, Bool, true, false, ◌==◌, inl, inr, Some, None, List, [], ◌∷◌, ◌++◌, codes, length, refl, sym, ap, ap₂, subst, ◌∙◌, arith}
use Rattle.std.proofs.lemmas.List.{append_cancel_left}
use Rattle.num_ends.specs.Ends.{Interval}
use Rattle.ground_task.specs.States.{StateValue}
use Rattle.ground_task.specs.Tasks.{TaskValue}
use Rattle.ground_task.specs.Valid.{IsValid}
use Rattle.box_model.specs.declared.state_box.May.{May}
use Rattle.box_model.specs.declared.state_box.StateBox.{StateBox}
use Rattle.cert_text.specs.declared.cert.Version.{Version}
use Rattle.cert_reader.specs.Parts.{IsWithout, HasParts}
use Rattle.cert_reader.specs.Spelling.{SpellsBox, SpellsState, fluents_of, facts_of_box, fluents_of_box, facts_of_state, fluents_of_state}
use Rattle.cert_reader.specs.Certificates.{FollowsAsBox, MayFollow}
use Rattle.cert_reader.specs.internal.Fronts.{EndsPart, AreReadable, IsParsed}
use Rattle.cert_reader.proofs.InParts.{parts_begin, one_reading}
use Rattle.cert_reader.proofs.InTasks.{plain_back, task_plain, facts_readable, fluents_readable}
use Rattle.cert_reader.proofs.InKinds.{box_facts_plain, box_fluents_plain, state_facts_plain, state_fluents_plain}

-- ---- boxes

module _ (t : TaskValue) (valid : IsValid t.raw) (version : Version) where
  box_fluents_readable : AreReadable (fluents_of_box version).name (fluents_of t) []
  box_fluents_readable = fluents_readable t.raw.fluents t.places (plain_back t.raw.facts t.raw.fluents (task_plain t.raw valid))

  box_facts_readable : (xs : List Interval) (text : List ℕ) → HasParts (fluents_of_box version) (fluents_of t) xs text [] → AreReadable (facts_of_box version).name t.raw.facts text
  box_facts_readable xs text parts = facts_readable (fluents_of_box version) refl t.raw.fluents t.places xs text parts t.raw.facts (task_plain t.raw valid)

  box_facts_end : (xs : List Interval) (text : List ℕ) → HasParts (fluents_of_box version) (fluents_of t) xs text [] → EndsPart text
  box_facts_end xs text parts = parts_begin (fluents_of_box version) (fluents_of t) xs text [] parts tt

  -- a line spells one box
  pub one_box : (line : List ℕ) (b c : StateBox) → SpellsBox t version line b → SpellsBox t version line c → b ≡ c
  one_box line b c h k =
      let begun : h.parts ≡ k.parts = append_cancel_left (codes "box") h.parts k.parts (sym h.spelled ∙ k.spelled) in
      let facts = one_reading (facts_of_box version) (box_facts_plain version) t.raw.facts b.facts c.facts k.parts h.fluent_parts k.fluent_parts
      (subst (λ (p : List ℕ). HasParts (facts_of_box version) t.raw.facts b.facts p h.fluent_parts) begun h.facts) k.facts
      (box_facts_readable b.fluents h.fluent_parts h.fluents) (box_facts_readable c.fluents k.fluent_parts k.fluents)
      (box_facts_end b.fluents h.fluent_parts h.fluents) (box_facts_end c.fluents k.fluent_parts k.fluents) in
      let fluents = one_reading (fluents_of_box version) (box_fluents_plain version) (fluents_of t) b.fluents c.fluents k.fluent_parts [] []
      (subst (λ (p : List ℕ). HasParts (fluents_of_box version) (fluents_of t) b.fluents p []) facts.1 h.fluents) k.fluents
      box_fluents_readable box_fluents_readable tt tt in
      ap₂ (λ (fs : List May) (is : List Interval). record { facts = fs; fluents = is }) facts.0 fluents.0

  module _ (line parts : List ℕ) (begun : line ≡ codes "box" ++ parts) where
    same_parts : (b : StateBox) → (is : SpellsBox t version line b) → is.parts ≡ parts
    same_parts b is = append_cancel_left (codes "box") is.parts parts (sym is.spelled ∙ begun)

    facts_here : (b : StateBox) → (is : SpellsBox t version line b) → HasParts (facts_of_box version) t.raw.facts b.facts parts is.fluent_parts
    facts_here b is = subst (λ (p : List ℕ). HasParts (facts_of_box version) t.raw.facts b.facts p is.fluent_parts) (same_parts b is) is.facts

    pub no_box_facts : IsParsed (facts_of_box version) t.raw.facts parts None → (b : StateBox) → SpellsBox t version line b → ⊥
    no_box_facts none b is =
        none b.facts is.fluent_parts (facts_here b is) (box_facts_readable b.fluents is.fluent_parts is.fluents) (box_facts_end b.fluents is.fluent_parts is.fluents)

    module _ (facts : List May) (rest : List ℕ) (read : IsParsed (facts_of_box version) t.raw.facts parts (Some (facts, rest))) where
      fluents_here : (b : StateBox) → (is : SpellsBox t version line b) → HasParts (fluents_of_box version) (fluents_of t) b.fluents rest []
      fluents_here b is =
          let same = read.1 b.facts is.fluent_parts (facts_here b is) (box_facts_readable b.fluents is.fluent_parts is.fluents) (box_facts_end b.fluents is.fluent_parts is.fluents) in
          subst (λ (p : List ℕ). HasParts (fluents_of_box version) (fluents_of t) b.fluents p []) same.1 is.fluents

      pub no_box_fluents : IsParsed (fluents_of_box version) (fluents_of t) rest None → (b : StateBox) → SpellsBox t version line b → ⊥
      no_box_fluents none b is = none b.fluents [] (fluents_here b is) box_fluents_readable tt

      pub more_than_box : (fluents : List Interval) (end : List ℕ) → IsParsed (fluents_of_box version) (fluents_of t) rest (Some (fluents, end)) → end ≢ [] → (b : StateBox) → SpellsBox t version line b → ⊥
      more_than_box fluents end parsed some b is = some (sym (parsed.1 b.fluents [] (fluents_here b is) box_fluents_readable tt).1)

      pub is_box : (fluents : List Interval) (end : List ℕ) → IsParsed (fluents_of_box version) (fluents_of t) rest (Some (fluents, end)) → end ≡ [] → IsWithout 10 line
          → SpellsBox t version line (record { facts = facts; fluents = fluents })
      is_box fluents end parsed none one_line = record {
        parts = parts;
        fluent_parts = rest;
        spelled = begun;
        facts = read.0;
        fluents = subst (λ (p : List ℕ). HasParts (fluents_of_box version) (fluents_of t) fluents rest p) none parsed.0;
        one_line = one_line;
      }

-- ---- states

module _ (t : TaskValue) (valid : IsValid t.raw) where
  state_fluents_readable : AreReadable fluents_of_state.name (fluents_of t) []
  state_fluents_readable = fluents_readable t.raw.fluents t.places (plain_back t.raw.facts t.raw.fluents (task_plain t.raw valid))

  state_facts_readable : (xs : List ℤ) (text : List ℕ) → HasParts fluents_of_state (fluents_of t) xs text [] → AreReadable facts_of_state.name t.raw.facts text
  state_facts_readable xs text parts = facts_readable fluents_of_state refl t.raw.fluents t.places xs text parts t.raw.facts (task_plain t.raw valid)

  state_facts_end : (xs : List ℤ) (text : List ℕ) → HasParts fluents_of_state (fluents_of t) xs text [] → EndsPart text
  state_facts_end xs text parts = parts_begin fluents_of_state (fluents_of t) xs text [] parts tt

  -- a line spells one state
  pub one_state : (line : List ℕ) (s u : StateValue) → SpellsState t line s → SpellsState t line u → s ≡ u
  one_state line s u h k =
      let begun : h.parts ≡ k.parts = append_cancel_left (codes "state") h.parts k.parts (sym h.spelled ∙ k.spelled) in
      let facts = one_reading facts_of_state state_facts_plain t.raw.facts s.facts u.facts k.parts h.fluent_parts k.fluent_parts
      (subst (λ (p : List ℕ). HasParts facts_of_state t.raw.facts s.facts p h.fluent_parts) begun h.facts) k.facts
      (state_facts_readable s.values h.fluent_parts h.fluents) (state_facts_readable u.values k.fluent_parts k.fluents)
      (state_facts_end s.values h.fluent_parts h.fluents) (state_facts_end u.values k.fluent_parts k.fluents) in
      let values = one_reading fluents_of_state state_fluents_plain (fluents_of t) s.values u.values k.fluent_parts [] []
      (subst (λ (p : List ℕ). HasParts fluents_of_state (fluents_of t) s.values p []) facts.1 h.fluents) k.fluents
      state_fluents_readable state_fluents_readable tt tt in
      ap₂ (λ (fs : List Bool) (vs : List ℤ). record { facts = fs; values = vs }) facts.0 values.0

  module _ (line parts : List ℕ) (begun : line ≡ codes "state" ++ parts) where
    truths_here : (s : StateValue) → (is : SpellsState t line s) → HasParts facts_of_state t.raw.facts s.facts parts is.fluent_parts
    truths_here s is =
        subst (λ (p : List ℕ). HasParts facts_of_state t.raw.facts s.facts p is.fluent_parts) (append_cancel_left (codes "state") is.parts parts (sym is.spelled ∙ begun)) is.facts

    pub no_state_facts : IsParsed facts_of_state t.raw.facts parts None → (s : StateValue) → SpellsState t line s → ⊥
    no_state_facts none s is =
        none s.facts is.fluent_parts (truths_here s is) (state_facts_readable s.values is.fluent_parts is.fluents) (state_facts_end s.values is.fluent_parts is.fluents)

    module _ (facts : List Bool) (rest : List ℕ) (read : IsParsed facts_of_state t.raw.facts parts (Some (facts, rest))) where
      numbers_here : (s : StateValue) → (is : SpellsState t line s) → HasParts fluents_of_state (fluents_of t) s.values rest []
      numbers_here s is =
          let same = read.1 s.facts is.fluent_parts (truths_here s is) (state_facts_readable s.values is.fluent_parts is.fluents) (state_facts_end s.values is.fluent_parts is.fluents) in
          subst (λ (p : List ℕ). HasParts fluents_of_state (fluents_of t) s.values p []) same.1 is.fluents

      pub no_numbers : IsParsed fluents_of_state (fluents_of t) rest None → (s : StateValue) → SpellsState t line s → ⊥
      no_numbers none s is = none s.values [] (numbers_here s is) state_fluents_readable tt

      pub more_than_state : (values : List ℤ) (end : List ℕ) → IsParsed fluents_of_state (fluents_of t) rest (Some (values, end)) → end ≢ [] → (s : StateValue) → SpellsState t line s → ⊥
      more_than_state values end parsed some s is = some (sym (parsed.1 s.values [] (numbers_here s is) state_fluents_readable tt).1)

      pub is_state : (values : List ℤ) (end : List ℕ) → IsParsed fluents_of_state (fluents_of t) rest (Some (values, end)) → end ≡ [] → IsWithout 10 line
          → SpellsState t line (record { facts = facts; values = values })
      is_state values end parsed none one_line = record {
        parts = parts;
        fluent_parts = rest;
        spelled = begun;
        facts = read.0;
        fluents = subst (λ (p : List ℕ). HasParts fluents_of_state (fluents_of t) values rest p) none parsed.0;
        one_line = one_line;
      }

-- ---- lines by code

pub not_empty : (r : Bool) (xs : List ℕ) → r ≡ (length xs == 0) → r ≡ false → xs ≢ []
not_empty r [] is wrong e = let yes : r ≡ true = is in cc
not_empty r (x ∷ xs) is wrong e = cc

-- a line that spells neither may not follow
pub may_not : (t : TaskValue) (version : Version) (states : List StateValue) (line : List ℕ) → ((b : StateBox) → FollowsAsBox t version states line b → ⊥)
    → ((s : StateValue) → SpellsState t line s → ⊥) → (line ≡ codes "end" → ⊥) → MayFollow t version states line → ⊥
may_not t version states line no_box no_state no_end (inl (b, follows)) = no_box b follows
may_not t version states line no_box no_state no_end (inr (inl (s, spells))) = no_state s spells
may_not t version states line no_box no_state no_end (inr (inr end)) = no_end end

pub no_box_behind : (t : TaskValue) (version : Version) (states : List StateValue) (line : List ℕ) → 0 < length states → (b : StateBox) → FollowsAsBox t version states line b → ⊥
no_box_behind t version states line some b follows = omega (arith, some, ap length follows.0)
