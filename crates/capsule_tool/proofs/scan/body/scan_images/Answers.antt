use Rattle.std.proofs.Common.{◌≤◌, ◌<◌, ◌+◌, sym, arith}
use Rattle.std.proofs.lemmas.Result.{err_from_is_err_and}
use Rattle.capsule_grammar.specs.Refusals.{driver_count, item_count}
use Rattle.capsule_tool.proofs.ImageLaws.{scan_start, scan_on, scan_stopped, scan_done}
use Rattle.capsule_tool.proofs.scan.body.scan_images.Goals as goal

pub loop-k-init : goal.loop-k-init
loop-k-init g c =
    let first = c.driver_count-drivers.ensures in
    let there : driver_count c.args.front.now ≤ item_count c.args.front.now = omega arith in
    rw first (record {
      scanned = scan_start c.args.front.now c.args.size c.args.at (driver_count c.args.front.now)
          c.args.stream.now;
      near = omega (
        arith,
        c.requires.list,
        c.requires.places.behind (driver_count c.args.front.now)
            there,
      );
      within = omega (arith, c.requires.within);
    })

pub returns-in_err-here-clause-scan : goal.returns-in_err-here-clause-scan
returns-in_err-here-clause-scan g c =
    let p = err_from_is_err_and c.from_residual.result c.from_residual.ensures.1 in
    let here : c.loop-k.k < item_count c.args.front.now =
    omega (arith, c.driver_count-drivers.ensures, c.image_count-images.ensures) in
    rw (p.1, p.2) (scan_stopped (Unit {0}) _ _ _ c.loop-k.k c.loop-k.here _ _ _ _ _ _
    c.loop-k.invariant.scanned (sym c.requires.list)
    (omega (arith, c.driver_count-drivers.ensures)) here
    c.start_of-from.ensures c.start_of-to.ensures
    (omega (
      arith,
      c.start_of-to.ensures,
      c.requires.places.within (c.loop-k.k + 1)
          (omega (arith, here)),
    ))
    (omega (arith, c.loop-k.invariant.near, c.start_of-from.ensures))
    (omega (
      arith,
      c.start_of-to.ensures,
      c.start_of-from.ensures,
      c.requires.places.rising c.loop-k.k here,
    )) c.in_err-here.ensures.scan)

pub loop-k-preserved : goal.loop-k-preserved
loop-k-preserved g c =
    let here : c.loop-k.k < item_count c.args.front.now =
    omega (arith, c.driver_count-drivers.ensures, c.image_count-images.ensures) in
    record {
      scanned = scan_on _ _ _ _ c.loop-k.k c.loop-k.here _ _ _ _ _ _ c.loop-k.invariant.scanned
          (omega (arith, c.requires.list))
          c.start_of-from.ensures c.start_of-to.ensures
          (omega (
            arith,
            c.start_of-to.ensures,
            c.requires.places.within (c.loop-k.k + 1)
                (omega (arith, here)),
          ))
          (omega (arith, c.loop-k.invariant.near, c.start_of-from.ensures))
          c.in_ok-here.ensures.scan;
      near = omega (
        arith,
        c.in_ok-here.ensures.scan.0,
        c.start_of-to.ensures,
        c.start_of-from.ensures,
        c.requires.places.rising c.loop-k.k here,
      );
      within = omega (
        arith,
        c.in_ok-here.ensures.scan.0,
        c.start_of-to.ensures,
        c.start_of-from.ensures,
        c.requires.places.rising c.loop-k.k here,
        c.requires.places.within (c.loop-k.k + 1) (omega (arith, here)),
      );
    }

pub returns-clause-scan : goal.returns-clause-scan
returns-clause-scan g c =
    let end : item_count c.args.front.now ≤ c.loop-k.k =
    omega (arith, c.driver_count-drivers.ensures, c.image_count-images.ensures) in
    scan_done (tt {0}) _ _ _ c.loop-k.k c.loop-k.here _ _ c.loop-k.invariant.scanned
    (sym c.requires.list) end c.loop-k.invariant.within
