use Rattle.std.proofs.Common.{arith, ◌≡◌, ◌<◌, max, min, bit_or, slice_index, refl, sym, ap, ◌∙◌, subst}
use Rattle.bound_words.specs.declared.system.Direction.{Direction}
use Rattle.bound_words.specs.Rows.{IsPast, further}
use Rattle.bound_words.specs.Protocol.{raised}
use Rattle.bound_words.proofs.Picks.{allows_raise}
use Rattle.bound_words.proofs.steps.raise.Goals as goal

pub fetch_max-requires : goal.fetch_max-requires
fetch_max-requires g c = let size = c.requires.table.1 in let few = c.requires.table.2 in let fits : c.args.value < 18446744073709551616 = omega arith in let asked = c.requires.asked in
    let mono = (g.met.S.System g.world.𝓛 g.world.𝓜 g.world.𝓡 ((λ s p. p), (λ p. p), (λ p. p), λ p. p)).monotone c.args.shared.now.key.system.value in let h = (mono.asked_word asked.0 c.args.seat.now.me.0.loaded c.args.word c.args.value asked.1 c.requires.rows.1 asked.2).0 in (
      c.requires.table.0,
      omega arith,
      allows_raise _ _ _ _ _ _ _ _ (λ n. max n c.args.value) mono fits c.requires.rows.0 c.requires.busy.0 c.requires.rows.1 asked
          (λ n. subst (λ (d : Direction). further d n c.args.value ≡ max n c.args.value) (sym c.in-Max.is ∙ c.requires.direction) refl),
    )

pub returns-in-Max-clause-view : goal.returns-in-Max-clause-view
returns-in-Max-clause-view g c = let r = c.fetch_max.ensures.2 c.args.word refl in (
  r.0,
  r.1 ∙ ap (λ l. (raised c.args.seat.now.me.0 c.args.word r.0, l)) c.requires.busy.1,
  subst (λ (d : Direction). IsPast d (slice_index c.args.seat.now.me.0.seen c.args.word) r.0) (sym c.requires.direction) r.2,
  subst (λ (d : Direction). IsPast d c.args.value r.0) (sym c.requires.direction) r.3,
  r.4,
)

pub fetch_min-requires : goal.fetch_min-requires
fetch_min-requires g c = let size = c.requires.table.1 in let few = c.requires.table.2 in let fits : c.args.value < 18446744073709551616 = omega arith in let asked = c.requires.asked in
    let mono = (g.met.S.System g.world.𝓛 g.world.𝓜 g.world.𝓡 ((λ s p. p), (λ p. p), (λ p. p), λ p. p)).monotone c.args.shared.now.key.system.value in let h = (mono.asked_word asked.0 c.args.seat.now.me.0.loaded c.args.word c.args.value asked.1 c.requires.rows.1 asked.2).0 in (
      c.requires.table.0,
      omega arith,
      allows_raise _ _ _ _ _ _ _ _ (λ n. min n c.args.value) mono fits c.requires.rows.0 c.requires.busy.0 c.requires.rows.1 asked
          (λ n. subst (λ (d : Direction). further d n c.args.value ≡ min n c.args.value) (sym c.in-Min.is ∙ c.requires.direction) refl),
    )

pub returns-in-Min-clause-view : goal.returns-in-Min-clause-view
returns-in-Min-clause-view g c = let r = c.fetch_min.ensures.2 c.args.word refl in (
  r.0,
  r.1 ∙ ap (λ l. (raised c.args.seat.now.me.0 c.args.word r.0, l)) c.requires.busy.1,
  subst (λ (d : Direction). IsPast d (slice_index c.args.seat.now.me.0.seen c.args.word) r.0) (sym c.requires.direction) r.2,
  subst (λ (d : Direction). IsPast d c.args.value r.0) (sym c.requires.direction) r.3,
  r.4,
)

pub fetch_or-requires : goal.fetch_or-requires
fetch_or-requires g c = let size = c.requires.table.1 in let few = c.requires.table.2 in let fits : c.args.value < 18446744073709551616 = omega arith in let asked = c.requires.asked in
    let mono = (g.met.S.System g.world.𝓛 g.world.𝓜 g.world.𝓡 ((λ s p. p), (λ p. p), (λ p. p), λ p. p)).monotone c.args.shared.now.key.system.value in let h = (mono.asked_word asked.0 c.args.seat.now.me.0.loaded c.args.word c.args.value asked.1 c.requires.rows.1 asked.2).0 in (
      c.requires.table.0,
      omega arith,
      allows_raise _ _ _ _ _ _ _ _ (λ n. bit_or n c.args.value) mono fits c.requires.rows.0 c.requires.busy.0 c.requires.rows.1 asked
          (λ n. subst (λ (d : Direction). further d n c.args.value ≡ bit_or n c.args.value) (sym c.in-Or.is ∙ c.requires.direction) refl),
    )

pub returns-in-Or-clause-view : goal.returns-in-Or-clause-view
returns-in-Or-clause-view g c = let r = c.fetch_or.ensures.2 c.args.word refl in (
  r.0,
  r.1 ∙ ap (λ l. (raised c.args.seat.now.me.0 c.args.word r.0, l)) c.requires.busy.1,
  subst (λ (d : Direction). IsPast d (slice_index c.args.seat.now.me.0.seen c.args.word) r.0) (sym c.requires.direction) r.2,
  subst (λ (d : Direction). IsPast d c.args.value r.0) (sym c.requires.direction) r.3,
  r.4,
)
