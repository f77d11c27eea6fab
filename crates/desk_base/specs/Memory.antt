-- The streams in memory: what a clause sees of them, and which of their calls fail.
use Rattle.std.specs.Prelude.{ℕ, ◌+◌, ◌-◌, ◌^◌, ◌<◌, List, Contains, refl}
use Rattle.std.specs.Coded.{Coded, code_by, coded×, coded_list, coded_ℕ}
use Rattle.desk_base.specs.Counts.{risen}

-- how many calls were made, and which calls, counted from 1, are to fail
pub record Schedule : Type 0 where
  pub calls : ℕ
  pub fails : List ℕ

-- it is stored as the pair of its fields
abbrev pub schedule_code : Coded Schedule
schedule_code = code_by (ℕ × List ℕ) (coded× coded_ℕ (coded_list coded_ℕ)) (λ s. (s.calls, s.fails))
    (λ p. record { calls = p.0; fails = p.1 }) (λ _. refl)

-- the next call is to fail; once the count stands at its last value none is
abbrev pub NextFails : Schedule → Type 0
NextFails schedule = (schedule.calls < 2 ^ 64 - 1) × Contains schedule.fails (schedule.calls + 1)

-- one more call was made
abbrev pub after_call : Schedule → Schedule
after_call schedule = record schedule { calls = risen schedule.calls }

-- the bytes that a source has left, and how many a call gives at most
pub record SourceSeen : Type 0 where
  pub left : List ℕ
  pub cut : ℕ
  pub schedule : Schedule
  pub faults : ℕ

-- it is stored as its fields, one after the other
abbrev pub source_seen_code : Coded SourceSeen
source_seen_code = code_by (List ℕ × (ℕ × (Schedule × ℕ)))
    (coded× (coded_list coded_ℕ) (coded× coded_ℕ (coded× schedule_code coded_ℕ)))
    (λ s. (s.left, (s.cut, (s.schedule, s.faults))))
    (λ (left, (cut, (schedule, faults))). record { left = left; cut = cut; schedule = schedule; faults = faults })
    (λ _. refl)

-- the bytes that a sink holds, how many a call takes at most, and how many it holds at most
pub record SinkSeen : Type 0 where
  pub written : List ℕ
  pub cut : ℕ
  pub room : ℕ
  pub schedule : Schedule
  pub faults : ℕ

-- it is stored as its fields, one after the other
abbrev pub sink_seen_code : Coded SinkSeen
sink_seen_code = code_by (List ℕ × (ℕ × (ℕ × (Schedule × ℕ))))
    (coded× (coded_list coded_ℕ) (coded× coded_ℕ (coded× coded_ℕ (coded× schedule_code coded_ℕ))))
    (λ s. (s.written, (s.cut, (s.room, (s.schedule, s.faults)))))
    (λ (written, (cut, (room, (schedule, faults)))). record {
      written = written;
      cut = cut;
      room = room;
      schedule = schedule;
      faults = faults;
    }) (λ _. refl)
