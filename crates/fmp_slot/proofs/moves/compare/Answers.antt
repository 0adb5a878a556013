use Rattle.std.proofs.Common.{◌≡◌, ◌≢◌, ℕ, length, get_or, arith, sym, ap, subst}
use Rattle.fmp_slot.proofs.SlotImages.{apart_differ, untold_apart}
use Rattle.fmp_slot.proofs.moves.compare.Goals as goal

pub returns-then-place-wrote-clause-refused : goal.returns-then-place-wrote-clause-refused
returns-then-place-wrote-clause-refused g c =
    let state = g.F.BenchState.state in
    let wrote = c.args.wrote.now in
    let read = c.read.new.out in
    let place = c.first_apart-place.result in
    let is = c.first_apart-place.ensures in
    let same_length : length read ≡ length wrote = omega arith in
    let other = subst (λ (k : ℕ). get_or wrote k 0 ≢ get_or read k 0) (sym is)
    (apart_differ wrote read same_length (omega arith)) in
    record {
      untold = untold_apart (state c.args.flash.now).contents.told c.args.at place wrote read
          ((state c.args.flash.now).contents.bytes c.args.region) same_length c.requires.stands
          c.in_ok-read.ensures.reads other;
      written = record {
        low = omega arith;
        high = omega arith;
        is = ap (λ (k : ℕ). get_or wrote k 0) (omega arith);
      };
      other = other;
    }
