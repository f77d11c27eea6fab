use Rattle.std.proofs.Common.{◌≡◌, length, map}
use Rattle.std.specs.Prelude.{All, codes}
use Rattle.std.specs.List.{list_all}
use Rattle.httparse.specs.Spans.{IsHeaderWithin, header_bytes}
use Rattle.http_cut.specs.Fields.{values_of}
use Rattle.http_desk.specs.Fronts.{is_own_origin}
use Rattle.http_desk.proofs.guard.has_own_origins.Given as goal

-- all origins are the port's where those of the fields that are left are
abbrev pub invariant-fields : goal.invariant-fields
invariant-fields l = record {
  within : All (IsHeaderWithin (length l.bytes)) l.left;
  same : list_all (is_own_origin l.digits) (values_of (codes "origin") (map (header_bytes l.bytes) l.fields))
      ≡ list_all (is_own_origin l.digits) (values_of (codes "origin") (map (header_bytes l.bytes) l.left));
}

abbrev pub decreases-fields : goal.decreases-fields
decreases-fields l = length l.left
