-- What a seat knows after it drew a number, and after two seats are joined.
use Rattle.std.proofs.Common.{◌≡◌, ℕ, ◌+◌, List, [], ◌∷◌, ◌++◌, refl, arith}
use Rattle.std.proofs.lemmas.List.Elements.{Contains-append_left, Contains-append_right, Contains-append_cases}
use Rattle.word_rows.specs.declared.view.Load.{Load}
use Rattle.word_rows.specs.declared.view.View.{View}
use Rattle.word_rows.specs.Views.{line, claimed, with_words, opened, joined, Knows, times}
use Rattle.dead_rows.specs.Knowledge.{HasDrawn, IsJoined}
use Rattle.dead_rows.proofs.Growing.{known_later}

pub drawn_only : (v : View) (n : ℕ) → HasDrawn v n (claimed v n)
drawn_only v n = record { claims = refl; knows = λ row words c. c; loads = λ row. refl; last = λ row. refl }

pub drawn_written : (v : View) (n : ℕ) (words : List ℕ) → HasDrawn v n (opened (with_words (claimed v n) n words))
drawn_written v n words = record { claims = refl; knows = λ row ws c. known_later v.known (line row ws) (line n words) c; loads = λ row. refl; last = λ row. refl }

pub written_known : (v : View) (n : ℕ) (words : List ℕ) → Knows (opened (with_words (claimed v n) n words)) n words
written_known v n words = (0, (omega arith), refl)

times-append : (row : ℕ) (a b : List Load) → times row (a ++ b) ≡ times row a + times row b
times-append row [] b = omega arith
times-append row (x ∷ xs) b = omega (arith, times-append row xs b)

loads_join : (v u : View) (row : ℕ) → times row v.loads + times row (v.others ++ u.loads ++ u.others) ≡ (times row v.loads + times row v.others) + (times row u.loads + times row u.others)
loads_join v u row = omega (arith, times-append row (v.others ++ u.loads) u.others, times-append row v.others u.loads)

pub joined_is : (v u : View) → IsJoined v u (joined v u)
joined_is v u = record {
  claims = refl;
  knows_first = λ row words c. Contains-append_left v.known u.known (line row words) c;
  knows_second = λ row words c. Contains-append_right v.known u.known (line row words) c;
  knows_no_more = λ row words c. Contains-append_cases v.known u.known (line row words) c;
  loads = loads_join v u;
  last = λ row. refl;
}
