use Rattle.std.proofs.Common.{arith}
use Rattle.num_ends.proofs.Numerals.{reading_ok, reading_many, reading_wide, reading_large}
use Rattle.num_ends.proofs.read.read_dec.Goals as goal

pub returns-then-places-from : goal.returns-then-places-from
returns-then-places-from c =
    let f = c.in-Some.found in
    reading_many c.args.text.now c.args.most f.0 f.1.now f.2.now c.kept_places-places.result c.in-Some.ensures (record { zeros = c.kept_places-places.ensures.value f.1.now }) (omega arith)

pub returns-then-places-gt18 : goal.returns-then-places-gt18
returns-then-places-gt18 c =
    let f = c.in-Some.found in
    reading_wide c.args.text.now c.args.most f.0 f.1.now f.2.now c.kept_places-places.result c.in-Some.ensures (record { zeros = c.kept_places-places.ensures.value f.1.now }) (omega arith) (omega arith)

pub returns-in-Some-number_of : goal.returns-in-Some-number_of
returns-in-Some-number_of c =
    let f = c.in-Some.found in
    let size = rw c.split_at.ensures.front at c.in-Some-number_of.ensures.0 in
    reading_ok c.args.text.now c.args.most f.0 f.1.now f.2.now c.kept_places-places.result _ c.in-Some.ensures (record { zeros = c.kept_places-places.ensures.value f.1.now }) (omega arith) (cc (c.of_magnitude.ensures, size))

pub returns-in-None-number_of : goal.returns-in-None-number_of
returns-in-None-number_of c =
    let f = c.in-Some.found in
    reading_large c.args.text.now c.args.most f.0 f.1.now f.2.now c.kept_places-places.result c.in-Some.ensures (record { zeros = c.kept_places-places.ensures.value f.1.now }) (omega arith) (rw c.split_at.ensures.front at c.in-None-number_of.ensures)
