use Rattle.cu_base.proofs.TimeLemmas.{shows_back}
use Rattle.cu_base.proofs.laws.texts_read_back.Goals as goal

pub returns : goal.returns
returns c = λ year month day hour minute second in_calendar. shows_back year month day hour minute
    second in_calendar
