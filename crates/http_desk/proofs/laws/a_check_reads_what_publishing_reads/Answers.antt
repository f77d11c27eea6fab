use Rattle.http_desk.proofs.Reading.{alike}
use Rattle.http_desk.proofs.laws.a_check_reads_what_publishing_reads.Goals as goal

pub returns : goal.returns
returns c = λ name number digest other body fault. alike name number digest other body fault
