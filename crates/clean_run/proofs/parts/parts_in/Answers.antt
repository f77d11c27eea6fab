use Rattle.clean_run.proofs.parts.parts_in.Goals as goal

pub returns-clause-sound : goal.returns-clause-sound
returns-clause-sound g c = record {
  schema = c.in_ok-schema.ensures.sound;
  chosen = c.in_ok-chosen.ensures.full;
  rules = c.in_ok-sources.ensures.rules;
  masters = c.in_ok-sources.ensures.masters;
}
