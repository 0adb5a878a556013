use Rattle.bench_model.proofs.ImageLemmas.{image_of_sync}
use Rattle.var_log.proofs.Gates.{second_images, opened}
use Rattle.var_log.proofs.moving.open_behind.Goals as goal

pub returns-in_err-write-2-clause-images : goal.returns-in_err-write-2-clause-images
returns-in_err-write-2-clause-images g c = λ stable image is.
    second_images c.args.at c.args.bytes.now _ _ _ _ c.write.ensures.writes c.in_ok-write.ensures.ok
    c.sync.ensures.writes c.in_ok-sync.ensures.ok c.write-2.ensures.writes image is

pub returns-in_err-sync-2-clause-images : goal.returns-in_err-sync-2-clause-images
returns-in_err-sync-2-clause-images g c = λ stable image is.
    second_images c.args.at c.args.bytes.now _ _ _ _ c.write.ensures.writes c.in_ok-write.ensures.ok
    c.sync.ensures.writes c.in_ok-sync.ensures.ok c.write-2.ensures.writes image
    (image_of_sync _ _ image c.sync-2.ensures.writes is)

pub returns-clause-images : goal.returns-clause-images
returns-clause-images g c = λ stable image is.
    second_images c.args.at c.args.bytes.now _ _ _ _ c.write.ensures.writes c.in_ok-write.ensures.ok
    c.sync.ensures.writes c.in_ok-sync.ensures.ok c.write-2.ensures.writes image
    (image_of_sync _ _ image c.sync-2.ensures.writes is)

pub returns-clause-done : goal.returns-clause-done
returns-clause-done g c = λ told.
    opened c.args.at c.args.bytes.now _ _ _ _ c.write.ensures.writes c.in_ok-write.ensures.ok
    c.sync.ensures.writes c.in_ok-sync.ensures.ok c.write-2.ensures.writes
    c.in_ok-write-2.ensures.ok _ c.sync-2.ensures.writes told
