use Rattle.std.proofs.Common.{◌≡◌, ◌≢◌, ℕ, List, [], ◌∷◌, All, AllPairs, length, ◌<◌, refl, ap, arith, rules}
use Rattle.std.proofs.lemmas.List.Elements.{All-cons, All-nil}
use Rattle.std.proofs.lemmas.List.Kept.{AllPairs-cons}
use Rattle.num_ends.specs.Decimal.{Decimal}
use Rattle.num_ends.specs.Names.{IsGroundText}
use Rattle.ground_task.proofs.Trees.{fold-True}
use Rattle.ground_task.specs.declared.raw.GCond.TheVariants as condition
use Rattle.ground_task.specs.declared.raw.Ground.{Ground}
use Rattle.ground_task.specs.Valid.{known_condition_layer, IsValid, IsValidAction}
use Rattle.task_tests.proofs.caps.data.Goals as goal

-- one letter in brackets
abbrev letter : ℕ → List ℕ
letter b = 40 ∷ b ∷ 41 ∷ []

both : {X : Type 0} (P : X → Type 0) (a b : X) → P a → P b → All P (a ∷ b ∷ [])
both P a b p q = All-cons P a (b ∷ []) p (All-cons P b [] q (All-nil P))

p_text : IsGroundText (letter 112)
p_text = record { name = 112 ∷ []; objects = []; spelled = refl; a_name = refl; object_names = refl }

q_text : IsGroundText (letter 113)
q_text = record { name = 113 ∷ []; objects = []; spelled = refl; a_name = refl; object_names = refl }

x_text : IsGroundText (letter 120)
x_text = record { name = 120 ∷ []; objects = []; spelled = refl; a_name = refl; object_names = refl }

a_text : IsGroundText (letter 97)
a_text = record { name = 97 ∷ []; objects = []; spelled = refl; a_name = refl; object_names = refl }

apart : (a b : ℕ) → a < b → letter a ≢ letter b
apart a b below e =
    let same : a ≡ b = cc in
    omega arith

three_apart : AllPairs (λ (one other : List ℕ). one ≢ other) (letter 112 ∷ letter 113 ∷ letter 120 ∷ [])
three_apart =
    let R : List ℕ → List ℕ → Type 0 = λ one other. one ≢ other in
    AllPairs-cons R (letter 112) (letter 113 ∷ letter 120 ∷ []) (both (R (letter 112)) (letter 113) (letter 120) (apart 112 113 (omega arith)) (apart 112 120 (omega arith)))
    (AllPairs-cons R (letter 113) (letter 120 ∷ []) (All-cons (R (letter 113)) (letter 120) [] (apart 113 120 (omega arith)) (All-nil (R (letter 113))))
    (AllPairs-cons R (letter 120) [] (All-nil (R (letter 120))) (λ i j d before within. absurd (omega arith))))

valid_sample : (values : List Decimal) (a : Ground) → length values ≡ 1 → IsValidAction 2 1 a → a.name ≡ letter 97 → IsValid (record { facts = letter 112 ∷ letter 113 ∷ []; fluents = letter 120 ∷ []; true_facts = 1 ∷ []; values = values; actions = a ∷ []; goal = condition.True })
valid_sample values a count valid name =
    record {
      few_facts = omega arith;
      few_fluents = omega arith;
      few_actions = omega arith;
      a_value_each = count;
      known_true_facts = search rules;
      valid_actions = All-cons (IsValidAction 2 1) a [] valid (All-nil (IsValidAction 2 1));
      known_goal = fold-True (known_condition_layer 2 1);
      fact_texts = both IsGroundText (letter 112) (letter 113) p_text q_text;
      fluent_texts = All-cons IsGroundText (letter 120) [] x_text (All-nil IsGroundText);
      action_texts = All-cons (λ (g : Ground). IsGroundText g.name) a [] (rw name a_text) (All-nil (λ (g : Ground). IsGroundText g.name));
      apart = three_apart;
      actions_apart = AllPairs-cons (λ (one other : Ground). one.name ≢ other.name) a [] (All-nil (λ (other : Ground). a.name ≢ other.name)) (λ i j d before within. absurd (omega arith));
    }

pub returns-clause-valid : goal.returns-clause-valid
returns-clause-valid c =
    rw (c.in_ok-facts.ensures, c.in_ok-fluents.ensures, c.in_ok-true_facts.ensures, c.in_ok-actions.ensures)
    (valid_sample _ _ (ap length c.in_ok-values.ensures) c.in_ok-action.ensures.valid c.in_ok-action.ensures.name)
