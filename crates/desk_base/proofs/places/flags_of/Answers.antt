use Rattle.std.proofs.Common.{◌≡◌, ◌+◌, ◌++◌, ◌∷◌, [], List, ℕ, zero-add, arith, length-append}
use Rattle.std.proofs.lemmas.List.FromFn.{map-range_with_len_more}
use Rattle.desk_base.specs.Places.{is_listed, flags_of}
use Rattle.desk_base.proofs.places.flags_of.Goals as goal

-- one more flag
flags_of-more : (count : ℕ) (places : List ℕ)
    → flags_of (count + 1) places ≡ flags_of count places ++ is_listed places count ∷ []
flags_of-more count places = map-range_with_len_more (is_listed places) 0 count count (zero-add count)

pub places-preserved : goal.places-preserved
places-preserved c = record {
  flags = rw (flags_of-more c.places.place c.args.places.now, ← c.places.invariant.flags, ← c.is_listed.ensures)
      c.in_ok-push.ensures.pushed;
  count = rw c.in_ok-push.ensures.pushed (simp length-append (omega arith));
}
