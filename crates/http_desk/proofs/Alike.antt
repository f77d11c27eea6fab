-- Equal bytes are answered alike, in whatever pieces they come.
use Rattle.std.proofs.Common.{◌≡◌, ◌⊎◌, inl, inr, ◌∙◌, ℕ, ◌+◌, ◌<◌, ◌==◌, Bool, List, [], ◌∷◌, ◌++◌, length, refl, ap}
use Rattle.std.proofs.Common.{sym}
use Rattle.std.proofs.Common.{subst, arith, length-append, Ok, Err}
use Rattle.std.proofs.lemmas.List.{length-map}
use Rattle.desk_words.specs.declared.change.Change.{Change}
use Rattle.desk_words.specs.declared.command.Command.{Command}
use Rattle.desk_words.specs.declared.reply.Reply.{Reply}
use Rattle.desk_words.specs.Changes.{changed_all}
use Rattle.desk_words.specs.Tables.{Rows}
use Rattle.machine_core.specs.Machine.{IsStep, answered, machine}
use Rattle.machine_core.proofs.Chains.{Gives-unique}
use Rattle.http_cut.specs.declared.step.BadRest.TheVariants as bad_rest
use Rattle.http_cut.specs.Cut.{WholeRequest, Begins, End, clean, bad, truncated, IsCut}
use Rattle.http_cut.proofs.Cuts.{Begins-more, IsCut_unique}
use Rattle.http_desk.specs.declared.declined.Declined.{Declined}
use Rattle.http_desk.specs.declared.serving.Ended.{Ended}
use Rattle.http_desk.specs.declared.serving.Ended.TheVariants as ended
use Rattle.http_desk.specs.Answered.{Answered, Outcome, Declines, Replied, Unavailable, NoMemory, Answers, IsAsked}
use Rattle.http_desk.specs.Answered.{Served, IsDue, AreDue, asks_head, requests}
use Rattle.http_desk.specs.Checked.{Checked}
use Rattle.http_desk.specs.Fronts.{Front, command_over}
use Rattle.http_desk.specs.Replies.{declined_text, reply_text}
use Rattle.http_desk.specs.Scenes.{Scene}
use Rattle.http_desk.specs.Streams.{Streams, IsOwnEnd, AnswersAll, bad_end}
use Rattle.http_desk.proofs.Checked.{Ok-same}
use Rattle.http_desk.proofs.Cutting.{Begins-first, Begins-one}

-- the machine gives one step
step_one : (rows : Rows) (command : Command) (reply other : Reply) (changes others : List Change)
    → IsStep rows command reply changes → IsStep rows command other others → (reply ≡ other) × (changes ≡ others)
step_one rows command reply other changes others h k =
    let same = Gives-unique (machine rows command) h.outcome k.outcome h.gives k.gives in
    let pairs : (reply, changes) ≡ (other, others) = h.answers ∙ ap answered same ∙ sym k.answers in
    (ap (λ (p : Reply × List Change). p.0) pairs, ap (λ (p : Reply × List Change). p.1) pairs)

-- so what is asked has one step
asked_one : (before : Rows) (asks : Checked Command) (reply other : Reply) (changes others : List Change)
    → IsAsked before asks reply changes → IsAsked before asks other others → (reply ≡ other) × (changes ≡ others)
asked_one before asks reply other changes others h k =
    let commands : h.command ≡ k.command = Ok-same (sym h.is ∙ k.is) in
    step_one before h.command reply other changes others h.step
    (subst (λ (c : Command). IsStep before c other others) (sym commands) k.step)

-- what is declined is no command
declined_not_asked : (before : Rows) (asks : Checked Command) (why : Declined) (reply : Reply) (changes : List Change)
    → asks ≡ Err why → IsAsked before asks reply changes → ⊥
declined_not_asked before asks why reply changes e h =
    let apart : ◌≡◌ {A = Checked Command} (Err why) (Ok h.command) = sym e ∙ h.is in
    cc

-- a request for which there is memory, and whose changes are kept, is answered in one way
Answers-one : (before : Rows) (asks : Checked Command) (closing asks_head : Bool) (outcome other : Outcome)
    (after then : Rows) (text words : List ℕ) → IsDue outcome → IsDue other
    → Answers before asks closing asks_head outcome after text → Answers before asks closing asks_head other then words
    → (outcome ≡ other) × (after ≡ then) × (text ≡ words)
Answers-one before asks closing asks_head (Declines why) (Declines other) after then text words m n (asked, stays, is)
    (asked_too, stays_too, is_too) =
    let both : ◌≡◌ {A = Checked Command} (Err why) (Err other) = sym asked ∙ asked_too in
    let same : why ≡ other = cc in (
      ap Declines same,
      stays ∙ sym stays_too,
      is ∙ ap (λ (w : Declined). declined_text w closing asks_head) same ∙ sym is_too,
    )
Answers-one before asks closing asks_head (Declines why) (Replied reply changes) after then text words m n h k =
    absurd (declined_not_asked before asks why reply changes h.0 k.0)
Answers-one before asks closing asks_head (Replied reply changes) (Declines why) after then text words m n h k =
    absurd (declined_not_asked before asks why reply changes k.0 h.0)
Answers-one before asks closing asks_head (Replied reply changes) (Replied other others) after then text words m n
    (asked, leaves, is) (asked_too, leaves_too, is_too) =
    let (replies, changed) = asked_one before asks reply other changes others asked asked_too in (
      λ i. Replied (replies i) (changed i),
      leaves ∙ ap (changed_all before) changed ∙ sym leaves_too,
      is ∙ ap (λ (r : Reply). reply_text r closing asks_head) replies ∙ sym is_too,
    )
Answers-one before asks closing asks_head Unavailable other after then text words m n h k = absurd m
Answers-one before asks closing asks_head NoMemory other after then text words m n h k = absurd m
Answers-one before asks closing asks_head (Declines why) Unavailable after then text words m n h k = absurd n
Answers-one before asks closing asks_head (Declines why) NoMemory after then text words m n h k = absurd n
Answers-one before asks closing asks_head (Replied reply changes) Unavailable after then text words m n h k = absurd n
Answers-one before asks closing asks_head (Replied reply changes) NoMemory after then text words m n h k = absurd n

-- and so are requests one after another
Served-one : (front : Front) (limit count : ℕ) (before : Rows) (answers others : List Answered) → requests answers ≡ requests others
    → AreDue answers → AreDue others → Served front limit count before answers → Served front limit count before others
    → answers ≡ others
Served-one front limit count before [] [] same m n h k = refl
Served-one front limit count before [] (b ∷ others) same m n h k = absurd (cc)
Served-one front limit count before (a ∷ answers) [] same m n h k = absurd (cc)
Served-one front limit count before (a ∷ answers) (b ∷ others) same m n h k =
    let first : a.request ≡ b.request = cc in
    let tail : requests answers ≡ requests others = cc in
    let closing : Bool = (count + 1) == limit in
    let moved = subst (λ (r : WholeRequest). Answers before (command_over front r) closing (asks_head r) b.outcome b.tables
    b.text)
    (sym first) k.0 in
    let (outcomes, tables, words) = Answers-one before (command_over front a.request) closing (asks_head a.request) a.outcome
    b.outcome a.tables b.tables a.text b.text m.0 n.0 h.0 moved in
    let head : a ≡ b = λ i. record { request = first i; outcome = outcomes i; tables = tables i; text = words i } in
    let others_are = Served-one front limit (count + 1) a.tables answers others tail m.1 n.1 h.1
    (subst (λ (t : Rows). Served front limit (count + 1) t others) (sym tables) k.1) in
    ap (λ (x : Answered). x ∷ answers) head ∙ ap (λ (l : List Answered). b ∷ l) others_are

-- ---- ends

-- the end of the cut that an end of its own tells, but for the limit
abbrev cut_end : Ended → End
cut_end ended.Clean = clean
cut_end ended.Limit = clean
cut_end ended.BadHead = bad bad_rest.BadHead
cut_end ended.Chunked = bad bad_rest.Chunked
cut_end ended.BodyLong = bad bad_rest.BodyLong
cut_end (ended.Truncated count) = truncated count
cut_end ended.ReadFault = clean
cut_end ended.WriteFault = clean
cut_end ended.NoMemory = clean

-- what ends so
abbrev ended_of : End → Ended
ended_of clean = ended.Clean
ended_of (bad kind) = bad_end kind
ended_of (truncated count) = ended.Truncated count

ended_of-cut_end : (end : Ended) → IsOwnEnd end → ¬ (end ≡ ended.Limit) → ended_of (cut_end end) ≡ end
ended_of-cut_end ended.Clean own other = refl
ended_of-cut_end ended.Limit own other = absurd (other refl)
ended_of-cut_end ended.BadHead own other = refl
ended_of-cut_end ended.Chunked own other = refl
ended_of-cut_end ended.BodyLong own other = refl
ended_of-cut_end (ended.Truncated count) own other = refl
ended_of-cut_end ended.ReadFault own other = absurd own
ended_of-cut_end ended.WriteFault own other = absurd own
ended_of-cut_end ended.NoMemory own other = absurd own

-- an end of its own is the limit, or that of all bytes
abbrev Whole : (front : Front) (limit : ℕ) (old new : Scene) (end : Ended) → Streams front limit old new end → Type 0
Whole front limit old new end s =
    ((end ≡ ended.Limit) × (length s.answers ≡ limit))
    ⊎ ((¬ (end ≡ ended.Limit)) × AnswersAll limit old new s.bytes s.taken s.answers s.rest s.after (cut_end end))

whole : (front : Front) (limit : ℕ) (old new : Scene) (end : Ended) (s : Streams front limit old new end) → IsOwnEnd end
    → Whole front limit old new end s
whole front limit old new ended.Clean s own = inr ((λ e. cc), s.ends.0)
whole front limit old new ended.Limit s own = inl (refl, s.ends.0)
whole front limit old new ended.BadHead s own = let ((all, few), text) = s.ends in inr ((λ e. cc), all)
whole front limit old new ended.Chunked s own = let ((all, few), text) = s.ends in inr ((λ e. cc), all)
whole front limit old new ended.BodyLong s own = let ((all, few), text) = s.ends in inr ((λ e. cc), all)
whole front limit old new (ended.Truncated count) s own = inr ((λ e. cc), s.ends.0)
whole front limit old new ended.ReadFault s own = absurd own
whole front limit old new ended.WriteFault s own = absurd own
whole front limit old new ended.NoMemory s own = absurd own

-- the requests stand at the front of all bytes
at_front : (front : Front) (limit : ℕ) (old new : Scene) (end : Ended) (s : Streams front limit old new end)
    → Begins s.bytes (requests s.answers) (s.rest ++ s.after)
at_front front limit old new end s =
    rw s.left.split (Begins-more s.taken (requests s.answers) s.rest s.after s.progress.begins)

-- who stops at the limit has answered requests that who goes on answers too
not_both : (limit : ℕ) (bytes : List ℕ) (few many : List Answered) (rest last : List ℕ) (end : End)
    → length few ≡ limit → Begins bytes (requests few) rest → IsCut bytes (requests many) last end
    → length many < limit → ⊥
not_both limit bytes few many rest last end size begins cut below =
    let first = Begins-first bytes (requests few) (requests many) rest last end begins cut.begins cut.ends in
    let joined : length (requests many) ≡ length (requests few) + length first.0 =
    ap length first.1 ∙ length-append (requests few) first.0 in
    let one : length (requests few) ≡ length few = length-map few (λ a. a.request) in
    let two : length (requests many) ≡ length many = length-map many (λ a. a.request) in
    omega arith

-- the requests and the end are those of the bytes and the limit
same_requests : (front : Front) (limit : ℕ) (old new early late : Scene) (end other : Ended) (one : Streams front limit old new end)
    (two : Streams front limit early late other) → IsOwnEnd end → IsOwnEnd other → one.bytes ≡ two.bytes
    → (requests one.answers ≡ requests two.answers) × (end ≡ other)
same_requests front limit old new early late end other one two own its same =
    let following : List ℕ = one.rest ++ one.after in
    let following_too : List ℕ = two.rest ++ two.after in
    let begins : Begins one.bytes (requests two.answers) following_too =
    subst (λ (b : List ℕ). Begins b (requests two.answers) following_too) (sym same)
    (at_front front limit early late other two) in
    let begins_too : Begins two.bytes (requests one.answers) following =
    subst (λ (b : List ℕ). Begins b (requests one.answers) following) same (at_front front limit old new end one) in
    elim (whole front limit old new end one own) [
      | inl reached ↦ elim (whole front limit early late other two its) [
        | inl too ↦
            let sizes : length (requests one.answers) ≡ length (requests two.answers) =
            length-map one.answers (λ a. a.request) ∙ reached.1 ∙ sym too.1
            ∙ sym (length-map two.answers (λ a. a.request)) in (
              Begins-one one.bytes (requests one.answers) (requests two.answers) following following_too sizes
                  (at_front front limit old new end one) begins,
              reached.0 ∙ sym too.0,
            )
        | inr (other_end, (cut, few)) ↦
            absurd (not_both limit two.bytes one.answers two.answers following following_too (cut_end other) reached.1
            begins_too cut few)
      ]
      | inr (other_end, (cut, few)) ↦ elim (whole front limit early late other two its) [
        | inl reached ↦
            absurd (not_both limit one.bytes two.answers one.answers following_too following
            (cut_end end) reached.1 begins
            cut few)
        | inr (other_too, (cut_too, few_too)) ↦
            let (all, rests, ends) = IsCut_unique one.bytes (requests one.answers) (requests two.answers) following
            following_too (cut_end end) (cut_end other) cut
            (subst (λ (b : List ℕ). IsCut b (requests two.answers) following_too (cut_end other))
            (sym same) cut_too) in (
              all,
              sym (ended_of-cut_end end own other_end) ∙ ap ended_of ends ∙ ended_of-cut_end other its other_too,
            )
      ]
    ]

-- and so are the answers, where none is for a failure of the keeper or want of memory
pub alike : (front : Front) (limit : ℕ) (old new early late : Scene) (end other : Ended) (one : Streams front limit old new end)
    (two : Streams front limit early late other) → IsOwnEnd end → IsOwnEnd other → one.bytes ≡ two.bytes
    → old.tables ≡ early.tables → AreDue one.answers → AreDue two.answers
    → (one.answers ≡ two.answers) × (end ≡ other)
alike front limit old new early late end other one two own its same tables due too =
    let requests_are = same_requests front limit old new early late end other one two own its same in (
      Served-one front limit 0 old.tables one.answers two.answers requests_are.0 due too one.progress.served
          (subst (λ (t : Rows). Served front limit 0 t two.answers) (sym tables) two.progress.served),
      requests_are.1,
    )
