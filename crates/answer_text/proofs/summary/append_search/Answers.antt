use Rattle.std.proofs.Common.{◌≡◌, ◌++◌, List, ℕ, codes, decimal, append_assoc, sym, ap, ◌∙◌}
use Rattle.answer_text.specs.Texts.{search_text}
use Rattle.answer_text.proofs.summary.append_search.Goals as goal

both : (out front number behind other : List ℕ) → (out ++ (front ++ number)) ++ (behind ++ other) ≡ out ++ (front ++ number ++ behind ++ other)
both out front number behind other =
    append_assoc out (front ++ number) (behind ++ other) ∙ ap (λ (l : List ℕ). out ++ l) (sym (append_assoc (front ++ number) behind other))

pub returns : goal.returns
unfolding search_text
returns c =
    rw (sym (both c.args.out.now (codes "GENERATED size ") (decimal c.args.size) (codes " status ") (decimal c.args.status)), sym c.in_ok-append_numbered.ensures) c.append_numbered-2.ensures
