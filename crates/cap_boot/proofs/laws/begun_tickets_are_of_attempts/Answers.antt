use Rattle.cap_boot.proofs.Imaged.{of_attempt}
use Rattle.cap_boot.proofs.laws.begun_tickets_are_of_attempts.Goals as goal

pub returns : goal.returns
returns c = of_attempt
