use Rattle.std.proofs.Common.{sym, ◌∙◌, arith}
use Rattle.fmp_headers.proofs.Images.{length-layout}
use Rattle.fmp_headers.proofs.image.ImageHeader.byte_length.Goals as goal

pub returns : goal.returns
returns c = c.image_header_size.ensures
    ∙ sym (length-layout c.args.self.now (omega arith) (omega arith) c.requires)
