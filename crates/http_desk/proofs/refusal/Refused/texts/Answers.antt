use Rattle.std.proofs.Common.{arith}
use Rattle.std.specs.Fmt.{digits}
use Rattle.http_desk.proofs.refusal.Refused.texts.Goals as goal

pub returns-in-Origin : goal.returns-in-Origin
unfolding digits
returns-in-Origin c = grind arith

pub returns-in-NoRoute : goal.returns-in-NoRoute
unfolding digits
returns-in-NoRoute c = grind arith

pub returns-in-OtherMethod : goal.returns-in-OtherMethod
unfolding digits
returns-in-OtherMethod c = grind arith

pub returns-in-NoLength : goal.returns-in-NoLength
unfolding digits
returns-in-NoLength c = grind arith

pub returns-in-BadHead : goal.returns-in-BadHead
unfolding digits
returns-in-BadHead c = grind arith

pub returns-in-Chunked : goal.returns-in-Chunked
unfolding digits
returns-in-Chunked c = grind arith

pub returns-in-BodyLong : goal.returns-in-BodyLong
unfolding digits
returns-in-BodyLong c = grind arith

pub returns-in-Unavailable : goal.returns-in-Unavailable
unfolding digits
returns-in-Unavailable c = grind arith

pub returns-in-NoMemory : goal.returns-in-NoMemory
unfolding digits
returns-in-NoMemory c = grind arith
