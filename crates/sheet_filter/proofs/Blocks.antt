-- The records of a block, one after another: what was drafted of them, and why no more are taken.
use Rattle.std.proofs.Common.{◌≡◌, ℕ, List, [], ◌∷◌, ◌++◌, refl, sym, ap, subst, ◌∙◌, append-nil, append_assoc, inl}
use Rattle.std.specs.Prelude.{Option, Some, None}
use Rattle.fix_model.specs.declared.kit.Kit.{Kit}
use Rattle.sheet_clean.specs.declared.drafts.Drafts.{Drafts}
use Rattle.sheet_clean.specs.declared.fault.SheetFault.{SheetFault}
use Rattle.sheet_clean.specs.declared.layout.Layout.{Layout}
use Rattle.sheet_clean.specs.declared.setting.Setting.{Setting}
use Rattle.sheet_clean.specs.declared.summary.Summary.{Summary}
use Rattle.sheet_clean.specs.Header.{header_fault}
use Rattle.sheet_clean.specs.Sheets.{Sheets, heads, joined, no_sheets}
use Rattle.sheet_filter.specs.declared.stop.Stop.{Stop}
use Rattle.sheet_filter.specs.declared.stop.Stop.TheVariants.{Refused, Failed, NoMemory}
use Rattle.sheet_filter.specs.Cleaning.{Drafting, DraftsNoMore, DraftsOn, DraftsOver, LacksRoom, Moment, NoneIsTaken}
use Rattle.sheet_filter.specs.Cleaning.{StopsRecord}
use Rattle.sheet_filter.specs.Ends.{WritesPart, WritesSome}
use Rattle.sheet_filter.specs.Outputs.{ArePartly, HaveRoom, Later, SinkStates}
use Rattle.sheet_filter.proofs.Drafting.{DraftsOver-some}
use Rattle.sheet_filter.proofs.Texts.{SomeSinkFailed-later, TakeRest-none, TakeRest-then, joined-assoc, joined-none}
use Rattle.sheet_filter.proofs.Texts.{lacks-before}

-- where there is no header yet, nothing was taken
none-taken : (kit : Kit) (setting : Setting) (layout : Option Layout) (summary : Summary) (drafts : Drafts)
    (old now : SinkStates) (records : List (List (List ℕ))) (sheets : Sheets) → layout ≡ None
    → DraftsOver kit setting layout summary drafts old now records sheets → NoneIsTaken summary old now records sheets
none-taken kit setting None summary drafts old now records sheets none drafting = drafting.0
none-taken kit setting (Some layout) summary drafts old now records sheets none drafting = absurd cc

-- a header of which a part was written
heads-part : (kit : Kit) (setting : Setting) (summary : Summary) (old now new : SinkStates)
    (records later : List (List (List ℕ))) (sheets : Sheets) (fields : List (List ℕ))
    → NoneIsTaken summary old now records sheets → header_fault setting fields ≡ None
    → ArePartly now new (heads setting fields) → WritesPart kit setting old new (records ++ fields ∷ later)
heads-part kit setting summary old now new records later sheets fields none fits part = inl (record {
  header = fields;
  rest = later;
  first = ap (λ l. l ++ fields ∷ later) none.none;
  fits = fits;
  written = subst (λ s. ArePartly s new (heads setting fields)) none.written part;
})

-- and there is no room for it
heads-full : (kit : Kit) (setting : Setting) (HasRoom : Sheets → Type 0) (summary : Summary) (old now : SinkStates)
    (records later : List (List (List ℕ))) (sheets more : Sheets) (fields : List (List ℕ))
    → NoneIsTaken summary old now records (joined sheets more) → header_fault setting fields ≡ None
    → (¬ HasRoom (joined more (heads setting fields)))
    → LacksRoom kit setting HasRoom (records ++ fields ∷ later) sheets
heads-full kit setting HasRoom summary old now records later sheets more fields none fits full = record {
  header = fields;
  rows = [];
  rest = later;
  begins = record { split = ap (λ l. l ++ fields ∷ later) none.none; fits = fits; cleaned = tt };
  due = joined more (heads setting fields);
  all = joined-none (heads setting fields)
      ∙ sym (ap (λ s. joined s (heads setting fields)) none.sheets_are)
      ∙ joined-assoc sheets more (heads setting fields);
  full = full;
}

module _ {W C : Type 0} {takes : W → ℕ → Type 0} {sheet_takes : C → ℕ → Type 0} {kit : Kit}
    {setting : Setting} where
  -- at one moment no record was drafted
  pub DraftsOn-none : (at : Moment W C) (drafts : Drafts)
      → DraftsOn takes sheet_takes kit setting at at drafts drafts []
  DraftsOn-none at drafts = record {
    drafted = λ old records sheets drafting. (
      no_sheets,
      TakeRest-none takes sheet_takes at.outputs,
      subst (λ r. Drafting kit setting at.cleaning drafts old at.sinks r (joined sheets no_sheets))
          (sym (append-nil records))
          (subst (Drafting kit setting at.cleaning drafts old at.sinks records) (sym (joined-none sheets)) drafting),
    );
  }

  -- some records were drafted, and then others
  pub DraftsOn-more : {from on to : Moment W C} {before between after : Drafts} {taken next : List (List (List ℕ))}
      → DraftsOn takes sheet_takes kit setting from on before between taken
      → DraftsOn takes sheet_takes kit setting on to between after next
      → DraftsOn takes sheet_takes kit setting from to before after (taken ++ next)
  DraftsOn-more {from} {on} {to} {before} {between} {after} {taken} {next} some others = record {
    drafted = λ old records sheets drafting.
        let (more, took, drafted) = some.drafted old records sheets drafting in
        let (further, took_on, drafted_on) = others.drafted old (records ++ taken) (joined sheets more) drafted in (
          joined more further,
          TakeRest-then takes sheet_takes from.outputs on.outputs to.outputs more further took took_on,
          subst (λ r. Drafting kit setting to.cleaning after old to.sinks r (joined sheets (joined more further)))
              (append_assoc records taken next)
              (subst (Drafting kit setting to.cleaning after old to.sinks (records ++ taken ++ next))
              (joined-assoc sheets more further) drafted_on),
        );
  }

  -- whatever follows, some of it was written
  DraftsOn-some : {from to : Moment W C} {before after : Drafts} {taken : List (List (List ℕ))}
      (later all : List (List (List ℕ))) → DraftsOn takes sheet_takes kit setting from to before after taken
      → taken ++ later ≡ all → (old : SinkStates) (records : List (List (List ℕ))) (sheets : Sheets)
      → Drafting kit setting from.cleaning before old from.sinks records sheets
      → WritesSome kit setting old to.sinks (records ++ all)
  DraftsOn-some {from} {to} {before} {after} {taken} later all some is old records sheets drafting =
      let (more, took, drafted) = some.drafted old records sheets drafting in
      subst (WritesSome kit setting old to.sinks) (append_assoc records taken later ∙ ap (λ l. records ++ l) is)
      (DraftsOver-some kit setting to.cleaning.layout to.cleaning.summary after old to.sinks (records ++ taken)
      (joined sheets more) later drafted)

  -- there was no memory for the next record
  pub DraftsOn-lost : {from to : Moment W C} {before after : Drafts} {taken : List (List (List ℕ))}
      (later all : List (List (List ℕ))) → DraftsOn takes sheet_takes kit setting from to before after taken
      → taken ++ later ≡ all → DraftsNoMore takes sheet_takes kit setting from to before after all NoMemory
  DraftsOn-lost later all some is = record { stops = DraftsOn-some later all some is }

  -- why the next record is not taken
  pub DraftsOn-stops : {from on to : Moment W C} {before between after : Drafts} {taken : List (List (List ℕ))}
      (later all : List (List (List ℕ))) (fields : List (List ℕ))
      → DraftsOn takes sheet_takes kit setting from on before between taken → taken ++ fields ∷ later ≡ all
      → Later from.sinks on.sinks → (stop : Stop)
      → ((fault : SheetFault) → stop ≡ Refused fault → to.outputs ≡ on.outputs)
      → StopsRecord setting (HaveRoom takes sheet_takes on.outputs) on.cleaning to.cleaning between after on.sinks
      to.sinks fields stop
      → DraftsNoMore takes sheet_takes kit setting from to before after all stop
  DraftsOn-stops {from} {on} {to} {before} {between} {after} {taken} later all fields some is no_less (Refused fault)
      kept (refused, same) = record {
        stops = λ old records sheets drafting.
            let (more, took, drafted) = some.drafted old records sheets drafting in (
              records ++ taken,
              more,
              rw (kept fault refl) took,
              rw (refused.layout, refused.summary, refused.drafts, same) drafted,
              record {
                fields = fields;
                rest = later;
                split = ap (λ l. records ++ l) (sym is) ∙ sym (append_assoc records taken (fields ∷ later));
                bad = rw (refused.layout, refused.summary) refused.bad;
              },
            );
      }
  DraftsOn-stops {from} {on} {to} {before} {between} {after} {taken} later all fields some is no_less Failed kept
      (none, (fits, part, failed, full)) = record {
        stops = λ old records sheets drafting.
            let (more, took, drafted) = some.drafted old records sheets drafting in
            let nothing = none-taken kit setting on.cleaning.layout on.cleaning.summary between old on.sinks
            (records ++ taken) (joined sheets more) none drafted in
            let split : records ++ taken ++ fields ∷ later ≡ records ++ all =
            append_assoc records taken (fields ∷ later) ∙ ap (λ l. records ++ l) is in (
              subst (WritesPart kit setting old to.sinks) split
                  (heads-part kit setting on.cleaning.summary old on.sinks to.sinks (records ++ taken) later
                  (joined sheets more) fields nothing fits part),
              SomeSinkFailed-later from.sinks on.sinks to.sinks no_less failed,
              subst (λ r. LacksRoom kit setting (HaveRoom takes sheet_takes from.outputs) r sheets) split
                  (heads-full kit setting (HaveRoom takes sheet_takes from.outputs) on.cleaning.summary old on.sinks
                  (records ++ taken) later sheets more fields nothing fits
                  (lacks-before takes sheet_takes from.outputs on.outputs more (heads setting fields) took full)),
            );
      }
  DraftsOn-stops {from} {on} {to} {before} {between} {after} {taken} later all fields some is no_less NoMemory kept
      same = record {
        stops = λ old records sheets drafting.
            subst (λ s. WritesSome kit setting old s (records ++ all)) (sym same)
            (DraftsOn-some (fields ∷ later) all some is old records sheets drafting);
      }
