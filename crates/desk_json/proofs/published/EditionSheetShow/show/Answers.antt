use Rattle.desk_json.proofs.published.EditionSheetShow.show.Goals as goal

pub returns : goal.returns
returns c = rw (
  c.in_ok-field-9.ensures,
  c.in_ok-field-8.ensures,
  c.in_ok-field-7.ensures,
  c.in_ok-field-6.ensures,
  c.in_ok-field-5.ensures,
  c.in_ok-field-4.ensures,
  c.in_ok-field-3.ensures,
  c.in_ok-field-2.ensures,
  c.in_ok-field.ensures,
  c.in_ok-begin_object.ensures,
) at c.end_object.ensures
