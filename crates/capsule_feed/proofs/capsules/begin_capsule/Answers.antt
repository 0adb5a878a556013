use Rattle.std.proofs.Common.{refl, arith, false}
use Rattle.capsule_feed.specs.declared.cursor.Cursor.{Cursor}
use Rattle.capsule_feed.specs.declared.cursor.Fate.TheVariants.{Reads}
use Rattle.capsule_feed.specs.declared.span.SpanKind.TheVariants.{Header}
use Rattle.capsule_feed.proofs.CapsuleSteps.{begun, too_many}
use Rattle.capsule_feed.proofs.capsules.begin_capsule.Goals as goal

pub returns-then-capsule-lt-MAX_CAPSULES : goal.returns-then-capsule-lt-MAX_CAPSULES
returns-then-capsule-lt-MAX_CAPSULES c = λ own whole b.
    begun _ own whole b (omega (arith, c.if-capsule-lt-MAX_CAPSULES.true)) refl refl refl refl
    (omega (arith, c.saturating_add.ensures, c.min.ensures, c.saturating_sub.ensures))

pub returns : goal.returns
returns c = λ own whole b.
    let here : Cursor = record {
      total = c.args.total;
      fate = Reads;
      kind = Header;
      capsule = c.args.capsule;
      item = 0;
      at = c.args.start;
      stop = c.saturating_add.result;
      tested = 0;
      start = c.args.start;
      header_size = 0;
      image_size = 0;
      is_fmp = false;
      drivers = 0;
      items = 0;
      vendor_at = 0;
      pad_at = 0;
      item_end = 0;
    } in
    rw (c.tells.ensures) (too_many here own whole b c.if-capsule-lt-MAX_CAPSULES.false refl)
