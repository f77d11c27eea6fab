use Rattle.std.proofs.Common.{◌≡◌, Err, ap}
use Rattle.desk_packing.specs.declared.error.UnpackFault.TheVariants as unpack
use Rattle.keeper_core.specs.declared.keeper.KeepFail.TheVariants.{Failed}
use Rattle.keeper_sqlite.proofs.Failing.{not_memory}
use Rattle.keeper_sqlite.proofs.Loads.{damaged_is}
use Rattle.keeper_sqlite.proofs.Read.{sorted_by_key}
use Rattle.keeper_sqlite.proofs.loading.found_in.Goals as goal

pub returns-in-Err-clause-fails : goal.returns-in-Err-clause-fails
returns-in-Err-clause-fails c failed tables up stand =
    let is : c.unpack_fail.result ≡ Failed = let e = failed in cc in
    let damaged = damaged_is c.in-Err.fault
    (not_memory c.unpack_fail.result c.in-Err.fault unpack.NoMemory c.unpack_fail.ensures is) in
    c.in-Err.ensures.damaged (ap Err damaged) (sorted_by_key _ tables up stand) tables stand
