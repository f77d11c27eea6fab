use Rattle.desk_packing.proofs.Contents.{is_text-fits, is_text-other}
use Rattle.desk_packing.proofs.texts.text_of.Goals as goal

pub returns-in-Ok-clause-is_text : goal.returns-in-Ok-clause-is_text
returns-in-Ok-clause-is_text c = is_text-fits c.args.bytes.now c.in-Ok.ensures.fits.0 c.in-Ok.ensures.fits.1

pub returns-in-Err-NotUtf8-clause-damaged : goal.returns-in-Err-NotUtf8-clause-damaged
returns-in-Err-NotUtf8-clause-damaged c damaged =
    is_text-other c.args.bytes.now (c.new.ensures.not_utf8.0 (cc)).1
