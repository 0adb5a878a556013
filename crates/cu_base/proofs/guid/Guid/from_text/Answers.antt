use Rattle.std.proofs.Common.{sym}
use Rattle.std.proofs.lemmas.Bool.{false≢true}
use Rattle.uuid.specs.Text.{parsed}
use Rattle.cu_base.proofs.GuidLemmas.{refused}
use Rattle.cu_base.proofs.guid.Guid.from_text.Goals as goal

pub returns-in-Err : goal.returns-in-Err
returns-in-Err c =
    record {
      value = sym
          (refused (parsed c.args.text.now)
          (λ bytes shown. false≢true (c.in-Err.ensures.ok.1 (bytes, shown))));
    }
