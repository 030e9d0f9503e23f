-- What a diary has after a line more, or without it.
use Rattle.std.proofs.Common.{◌≡◌, ℕ, List, [], ◌∷◌, ◌++◌, All, Result, Ok, Err, OnOk, OnErr, Some, sym, refl, ap, ◌∙◌}
use Rattle.std.proofs.lemmas.List.{append-nil}
use Rattle.std.proofs.lemmas.List.Elements.{All-nil, All-cons}
use mathlib.Core.List.{map-append}
use Rattle.turn_lock.specs.declared.view.Entry.{Entry}
use Rattle.turn_lock.specs.History.{OwnAfter}
use Rattle.thread_tests.specs.Diaries.{entry_of, entries_of}

pub signed : {E : Type 0} (old new : List (ℕ × ℕ)) (worker page : ℕ) (r : Result (Unit {0}) E) → OnOk r (new ≡ old ++ (worker, page) ∷ []) → OnErr r (new ≡ old) → OwnAfter worker (entries_of old) (entries_of new)
signed old new worker page (Ok u) ok err = (entry_of (worker, page) ∷ [], ap entries_of ok ∙ map-append entry_of old ((worker, page) ∷ []), All-cons (λ (e : Entry). e.worker ≡ Some worker) (entry_of (worker, page)) [] refl (All-nil (λ (e : Entry). e.worker ≡ Some worker)))
signed old new worker page (Err e) ok err = ([], ap entries_of err ∙ sym (append-nil (entries_of old)), All-nil (λ (e : Entry). e.worker ≡ Some worker))
