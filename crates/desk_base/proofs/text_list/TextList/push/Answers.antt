use Rattle.std.proofs.Common.{◌≡◌, ◌∷◌, ◌++◌, ◌∙◌, [], length, ap, arith}
use Rattle.std.proofs.lemmas.Str.{IsCharBoundary-at_seam, IsUtf8-string_bytes}
use Rattle.std.specs.String.{string_bytes}
use Rattle.desk_base.proofs.TextLists.{AreEnds-push, texts_from-push}
use Rattle.desk_base.proofs.text_list.TextList.push.Goals as goal

pub invariant_of-self-in-Ok : goal.invariant_of-self-in-Ok
invariant_of-self-in-Ok c =
    let inside = c.self.inside in
    let start : c.len-start.result ≡ length (string_bytes inside.bytes) = omega (arith, c.len-start.ensures) in
    rw (c.in-Ok.ensures.items, c.in_ok-push_str.ensures.bytes, start)
    (AreEnds-push 0 inside.ends.items (string_bytes inside.bytes) c.args.text.now c.self.invariant
    (IsUtf8-string_bytes inside.bytes) c.utf8.text c.requires)

-- the text may be cut off again where it was put
pub truncate-requires : goal.truncate-requires
truncate-requires c within =
    let start : c.len-start.result ≡ length (string_bytes c.self.inside.bytes) = omega (arith, c.len-start.ensures) in
    let cut = IsCharBoundary-at_seam (string_bytes c.push_str.new.self) (string_bytes c.self.inside.bytes)
    c.args.text.now c.in_ok-push_str.ensures.bytes c.utf8.text in
    rw start (cut.0, λ some. cut.1)

pub returns-in-Ok-clause-pushed : goal.returns-in-Ok-clause-pushed
returns-in-Ok-clause-pushed c =
    let inside = c.self.inside in
    let start : c.len-start.result ≡ length (string_bytes inside.bytes) = omega (arith, c.len-start.ensures) in
    rw (c.in-Ok.ensures.items, c.in_ok-push_str.ensures.bytes, start)
    (texts_from-push 0 inside.ends.items (string_bytes inside.bytes) c.args.text.now c.self.invariant
    ∙ ap (λ texts. texts ++ c.args.text.now ∷ []) c.self.view_is)
