use Rattle.std.proofs.Common.{◌≡◌, ◌≢◌, sym, ℕ, List, [], ◌∷◌, All, AllPairs, length, ◌<◌, refl, ap, ◌∙◌, arith, rules}
use Rattle.std.specs.Prelude.{IsTrue}
use Rattle.std.proofs.lemmas.List.Elements.{All-cons, All-nil}
use Rattle.std.proofs.lemmas.List.Kept.{AllPairs-cons}
use Rattle.num_ends.specs.Names.{IsGroundText}
use Rattle.ground_task.specs.declared.raw.RawTask.{RawTask}
use Rattle.ground_task.specs.declared.raw.Ground.{Ground}
use Rattle.ground_task.specs.Valid.{is_known_condition, IsValid, IsValidAction}
use Rattle.store_tests.proofs.dead_boxes.data.Goals as goal

-- one letter in brackets
abbrev letter : ℕ → List ℕ
letter b = 40 ∷ b ∷ 41 ∷ []

single : {X : Type 0} (P : X → Type 0) (a : X) → P a → All P (a ∷ [])
single P a p = All-cons P a [] p (All-nil P)

no_pair : {X : Type 0} (R : X → X → Type 0) (a : X) → AllPairs R (a ∷ [])
no_pair R a = λ i j d before within. absurd (omega arith)

x_text : IsGroundText (letter 120)
x_text = record { name = 120 ∷ []; objects = []; spelled = refl; a_name = refl; object_names = refl }

a_text : IsGroundText (letter 97)
a_text = record { name = 97 ∷ []; objects = []; spelled = refl; a_name = refl; object_names = refl }

valid_from : (raw : RawTask) (a : Ground) → raw.facts ≡ [] → raw.fluents ≡ letter 120 ∷ [] → raw.true_facts ≡ []
    → length raw.values ≡ 1 → raw.actions ≡ a ∷ [] → IsTrue (is_known_condition 0 1 raw.goal) → IsValidAction 0 1 a → a.name ≡ letter 97 → IsValid raw
valid_from raw a no_facts fluents no_true count actions known a_valid a_name =
    let facts_len : length raw.facts ≡ 0 = ap length no_facts in
    let fluents_len : length raw.fluents ≡ 1 = ap length fluents in
    let actions_len : length raw.actions ≡ 1 = ap length actions in
    record {
      few_facts = omega (arith, facts_len);
      few_fluents = omega (arith, fluents_len);
      few_actions = omega (arith, actions_len);
      a_value_each = count ∙ sym fluents_len;
      known_true_facts = rw no_true (All-nil (λ f. f < length raw.facts));
      valid_actions = rw (actions, facts_len, fluents_len) (single (IsValidAction 0 1) a a_valid);
      known_goal = rw (facts_len, fluents_len) known;
      fact_texts = rw no_facts (All-nil IsGroundText);
      fluent_texts = rw fluents (single IsGroundText (letter 120) x_text);
      action_texts = rw actions (single (λ (g : Ground). IsGroundText g.name) a (rw a_name a_text));
      apart = rw (no_facts, fluents) (no_pair (λ (one other : List ℕ). one ≢ other) (letter 120));
      actions_apart = rw actions (no_pair (λ (one other : Ground). one.name ≢ other.name) a);
    }

pub returns-clause-valid : goal.returns-clause-valid
returns-clause-valid c = valid_from _ _ c.new.ensures (cc (c.in_ok-one.ensures, c.in_ok-text.ensures)) c.new-2.ensures
    (ap length c.in_ok-one-2.ensures) c.in_ok-one-3.ensures c.stands.ensures.known c.in_ok-grows.ensures.valid c.in_ok-grows.ensures.name
