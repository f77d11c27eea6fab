use Rattle.std.proofs.Common.{take, map}
use Rattle.httparse.specs.Spans.{header_bytes}
use Rattle.http_cut.specs.Fields.{values_of}
use Rattle.http_cut.specs.Looks.{AreFound}
use Rattle.http_cut.proofs.fields.find.Given as goal

abbrev pub invariant-headers : goal.invariant-headers
invariant-headers l = AreFound l.bytes (values_of l.name (map (header_bytes l.bytes) (take l.header-index l.headers)))
    l.found
