use Rattle.stored_vars.specs.Records.{record_bytes, record_in}
use Rattle.stored_vars.proofs.RecordLaws.{claim_read, record_again, record_back, record_width}
use Rattle.stored_vars.proofs.RecordLaws.{state_read}
use Rattle.stored_vars.proofs.Same.{one_spelling}
use Rattle.stored_vars.proofs.laws.record_law.Goals as goal

pub returns : goal.returns
returns c = record {
  again = record_again;
  back = record_back;
  width = record_width;
  one = λ d r s is_r is_s. one_spelling record_bytes (record_in d) r s (record_again d r is_r)
      (record_again d s is_s);
  state = state_read;
  claim = claim_read;
}
