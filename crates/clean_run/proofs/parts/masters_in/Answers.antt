use Rattle.std.proofs.Common.{◌≡◌, ◌≢◌, ◌+◌, ◌++◌, ◌∷◌, [], Err, take, drop, rules, suc, sym, ap, ◌∙◌, add-one}
use Rattle.std.proofs.Common.{drop-cons}
use Rattle.std.proofs.Math.Seq.{take-suc}
use Rattle.std.proofs.lemmas.List.{take-append-drop}
use Rattle.clean_run.specs.Parts.{masters_in}
use Rattle.clean_run.specs.declared.ended.Status.TheVariants.{NoMemory}
use Rattle.clean_run.proofs.Masters.{masters_in-push, masters_in-stop, named-push, sound-push}
use Rattle.clean_run.proofs.parts.masters_in.Goals as goal

pub returns-in_err-master-clause-fault : goal.returns-in_err-master-clause-fault
returns-in_err-master-clause-fault g c = λ folder tells.
    let sheets = c.args.sheets.now in
    let place = c.sheets.sheet-index in
    let sheet = c.sheet-item.result in
    let ended = c.in_err-master.field-0.0 in
    let whole : sheets ≡ take place sheets ++ sheet ∷ drop (suc place) sheets =
    sym (take-append-drop place sheets)
    ∙ ap (λ rest. take place sheets ++ rest) (drop-cons sheets place sheet c.sheets-test.true
    ∙ ap (λ first. first ∷ drop (suc place) sheets) (sym c.sheet-item.is)) in
    let stopped : ended.status ≢ NoMemory → masters_in folder sheets ≡ Err ended.status = λ told.
    ap (masters_in folder) whole
    ∙ masters_in-stop folder (take place sheets) sheet (drop (suc place) sheets) c.sheets.masters ended.status
    (c.sheets.invariant.masters folder tells) (c.in_err-master.ensures.fault folder tells told) in
    search (rules, stopped)

pub sheets-preserved : goal.sheets-preserved
sheets-preserved g c =
    let sheets = c.args.sheets.now in
    let place = c.sheets.sheet-index in
    let sheet = c.sheet-item.result in
    let longer : take (place + 1) sheets ≡ take place sheets ++ sheet ∷ [] =
    rw add-one (take-suc sheets place sheet c.sheets-test.true
    ∙ ap (λ last. take place sheets ++ last ∷ []) (sym c.sheet-item.is)) in
    record {
      masters = λ folder tells.
          rw (longer, c.in_ok-push.ensures.pushed, c.in_ok-copy.ensures.copied)
          (masters_in-push folder (take place sheets) sheet c.sheets.masters c.in_ok-master.master
          (c.sheets.invariant.masters folder tells) (c.in_ok-master.ensures.master folder tells));
      named = rw (longer, c.in_ok-push.ensures.pushed, c.in_ok-copy.ensures.copied)
          (named-push c.sheets.masters (take place sheets) sheet c.in_ok-master.master c.sheets.invariant.named);
      sound = rw c.in_ok-push.ensures.pushed
          (sound-push c.sheets.masters c.in_ok-copy.field-0 c.in_ok-master.master c.sheets.invariant.sound
          c.in_ok-master.ensures.sound);
    }
