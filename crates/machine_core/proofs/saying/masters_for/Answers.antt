use Rattle.std.proofs.Common.{◌≡◌, ◌∙◌, ◌+◌, ◌++◌, ◌∷◌, [], None, Some, ap, map, sym, take}
use Rattle.std.proofs.lemmas.List.{get_or-map, length-map, map-append, take_more}
use Rattle.desk_words.specs.Tables.{published_of, rows_of}
use Rattle.desk_valid.specs.Readings.{all_of}
use Rattle.desk_valid.proofs.Named.{all_of-none, all_of-push}
use Rattle.machine_core.specs.Says.{master_for}
use Rattle.machine_core.proofs.saying.masters_for.Goals as goal

pub returns-in_default : goal.returns-in_default
returns-in_default c =
    let found = master_for (published_of (rows_of c.args.tables.now)) in
    let item = c.master-item.result in
    sym (all_of-none (map found c.args.masters.now) c.masters.master-index (rw length-map c.masters-test.true)
    (get_or-map found c.args.masters.now c.masters.master-index item None c.masters-test.true
    ∙ ap found (sym c.master-item.is) ∙ sym c.in_ok-one.ensures ∙ c.in_default.is))

pub masters-preserved : goal.masters-preserved
masters-preserved c =
    let found = master_for (published_of (rows_of c.args.tables.now)) in
    let index = c.masters.master-index in
    let masters = c.args.masters.now in
    let item = c.master-item.result in
    let is = ap found (sym c.master-item.is) ∙ sym c.in_ok-one.ensures ∙ c.in-Some.is in
    let joined : map found (take (index + 1) masters) ≡ map found (take index masters) ++ Some c.in-Some.one ∷ [] =
    ap (map found) (take_more masters index item c.masters-test.true)
    ∙ map-append found (take index masters) (_ ∷ []) ∙ ap (λ one. map found (take index masters) ++ one ∷ []) is in
    ap all_of joined
    ∙ all_of-push (map found (take index masters)) c.masters.found c.in-Some.one c.masters.invariant
    ∙ ap Some (sym c.in_ok-push.ensures.pushed)
