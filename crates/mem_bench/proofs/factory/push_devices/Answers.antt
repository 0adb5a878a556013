use Rattle.std.proofs.Common.{List, ◌≡◌, ◌++◌, ◌∷◌, [], ◌∙◌, ap, subst, sym}
use Rattle.bench_model.specs.Devices.{IsDevice}
use Rattle.bench_model.specs.Factory.{first_device}
use Rattle.mem_bench.specs.Regions.{RegionValue, stable_region}
use Rattle.mem_bench.proofs.FactoryLemmas.{regions_more}
use Rattle.mem_bench.proofs.factory.push_devices.Goals as goal

pub first_device-requires : goal.first_device-requires
first_device-requires c =
    (subst IsDevice (sym c.device-item.is)
    (c.requires.each c.loop-device.device-index c.device-item.result
    c.loop-device-test.true)).capacity

pub loop-device-preserved : goal.loop-device-preserved
loop-device-preserved c =
    let made : c.in_ok-first_device.field-0
    ≡ stable_region (first_device c.args.two_banks c.device-item.result) =
    c.in_ok-first_device.ensures in
    let pushed : c.push.new.items.items ≡ c.loop-device.regions.items
    ++ c.in_ok-first_device.field-0 ∷ [] =
    c.in_ok-push.ensures in
    let more = regions_more c.args.regions.now.items
    (first_device c.args.two_banks) c.args.devices.now c.loop-device.device-index
    c.device-item.result c.loop-device-test.true c.device-item.is in
    record {
      so_far = pushed
          ∙ ap (λ (r : RegionValue). c.loop-device.regions.items ++ r ∷ []) made
          ∙ ap (λ (rs : List RegionValue). rs
          ++ stable_region (first_device c.args.two_banks c.device-item.result) ∷ [])
          c.loop-device.invariant.so_far
          ∙ more;
    }
