use Rattle.std.proofs.Common.{ℕ, List, ◌∙◌, sym, ap, subst}
use Rattle.std.specs.Prelude.{OnOk}
use Rattle.capsule_grammar.specs.Reading.{capsule_of as capsule_read}
use Rattle.capsule_grammar.specs.Rebuilt.{emptied}
use Rattle.capsule_grammar.specs.Spelling.{spelling}
use Rattle.cu_io.specs.Streams.{AppendsAll, AppendsFront}
use Rattle.capsule_tool.specs.Outputs.{output_bytes}
use Rattle.capsule_tool.proofs.output.Output.write.Goals as goal

pub returns-in-Rebuilt-clause-ok : goal.returns-in-Rebuilt-clause-ok
returns-in-Rebuilt-clause-ok g c =
    subst (λ (bytes : List ℕ). OnOk c.write_rebuilt.result
    (AppendsAll (g.O.Sink.seen c.args.out.now) (g.O.Sink.seen c.write_rebuilt.new.out) bytes))
    (ap (λ (b : List ℕ). spelling (emptied (capsule_read b))) c.as_slice-in-Rebuilt.ensures
    ∙ sym (ap output_bytes c.in-Rebuilt.is) ∙ c.self.view_is)
    c.write_rebuilt.ensures.ok

pub returns-in-Rebuilt-clause-err : goal.returns-in-Rebuilt-clause-err
returns-in-Rebuilt-clause-err g c =
    subst (λ (bytes : List ℕ).
    AppendsFront (g.O.Sink.seen c.args.out.now) (g.O.Sink.seen c.write_rebuilt.new.out) bytes)
    (ap (λ (b : List ℕ). spelling (emptied (capsule_read b))) c.as_slice-in-Rebuilt.ensures
    ∙ sym (ap output_bytes c.in-Rebuilt.is) ∙ c.self.view_is)
    c.write_rebuilt.ensures.err
