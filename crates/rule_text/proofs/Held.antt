-- What a draft holds, by what is expected after the tokens so far, and what each part adds.
use Rattle.std.proofs.Common.{◌≡◌, ℕ, zero, suc, ◌<◌, ◌≤◌, ◌==◌, nat_le, true, false, List, [], ◌∷◌, Bool}
use Rattle.std.proofs.Common.{◌++◌, length, Option, Some, None, Ok, refl, subst, arith}
use Rattle.std.specs.Prelude.{IsTrue}
use Rattle.std.specs.Str.{bytes_eq, IsAscii}
use Rattle.std.specs.List.{list_all, AllByRecursion}
use Rattle.std.proofs.lemmas.Bool.{and_parts}
use Rattle.std.proofs.lemmas.Bool.Decides.{nat_tests}
use Rattle.std.proofs.lemmas.List.{length-append}
use Rattle.std.proofs.lemmas.List.Quantifiers.{position-Some}
use Rattle.std.proofs.lemmas.Str.{IsUtf8-from_ascii}
use Rattle.desk_base.proofs.Lists.{AllByRecursion-push}
use Rattle.desk_base.specs.Words.{is_word, is_word_byte}
use Rattle.fix_model.specs.declared.pattern.Pat.{Pat}
use Rattle.fix_model.specs.declared.pattern.Pat.TheVariants.{Any}
use Rattle.schema_core.specs.declared.schema.Schema.{Schema}
use Rattle.rule_text.specs.declared.place.Place.{Place}
use Rattle.rule_text.specs.declared.token.Token.{Token}
use Rattle.rule_text.specs.declared.token.Token.TheVariants.{Word, Quoted, Sign}
use Rattle.rule_text.specs.declared.grammar.Expected.{Expected}
use Rattle.rule_text.specs.declared.grammar.Expected.TheVariants as expected
use Rattle.rule_text.specs.declared.draft.Draft.{Draft}
use Rattle.rule_text.specs.Tokens.{is_name, is_quoted, is_column}
use Rattle.rule_text.specs.Reading.{content, attribute_of, is_long, draft_following, has_name, has_attribute, with_name}
use Rattle.rule_text.specs.Reading.{with_key_of, with_key_column, with_head_of, with_head_column, with_asked_of}
use Rattle.rule_text.specs.Reading.{with_cond, with_constant, with_text}
use Rattle.rule_text.specs.Patterns.{constant_of, set_of}
use Rattle.rule_text.specs.Rulebooks.{is_plain, IsPlain, IsPattern, ArePairs, IsLine, AreNamedApart}
use Rattle.rule_text.proofs.Parts.{has_attribute-push, ArePairs-push, ArePairs-none}
use Rattle.rule_text.proofs.Parts.{AreNamedApart-push, nat_eq-other}
use Rattle.rule_text.proofs.Walk.{IsSpelled}
use Rattle.rule_text.proofs.Led.{unless-Ok, same-draft}

-- ---- what a draft holds, by what is expected

-- the closed rules are as they should be
pub record HasLines (schema : Schema) (draft : Draft) : Type 0 where
  pub lines : AllByRecursion (IsLine schema) draft.lines
  pub apart : AreNamedApart draft.lines

-- no rule has begun
pub record AtRule (schema : Schema) (draft : Draft) : Type 0 where
  pub closed : HasLines schema draft
  pub no_keys : draft.line.keys ≡ []
  pub no_conds : draft.line.conds ≡ []
  pub no_texts : draft.texts ≡ []

-- the rule has a name of its own
pub record HasName (draft : Draft) : Type 0 where
  pub name : IsTrue (is_word draft.line.name)
  pub free : has_name draft.lines draft.line.name ≡ false

-- the master comes next
pub record AtMaster (schema : Schema) (draft : Draft) : Type 0 where
  pub start : AtRule schema draft
  pub named : HasName draft

-- keys may follow
pub record AtKey (schema : Schema) (draft : Draft) : Type 0 where
  pub closed : HasLines schema draft
  pub named : HasName draft
  pub master : IsTrue (is_word draft.line.master)
  pub keys : ArePairs IsPlain schema draft.line.keys
  pub no_conds : draft.line.conds ≡ []
  pub no_texts : draft.texts ≡ []

-- the attribute that is open may be added to these pairs
pub record HasRoom {A : Type 0} (schema : Schema) (attribute : ℕ) (pairs : List (ℕ × A)) : Type 0 where
  pub room : length pairs < 8
  pub known : attribute < length schema.attributes
  pub free : has_attribute pairs attribute ≡ false

-- the column of a key comes next, and there is room for the key
pub record AtColumn (schema : Schema) (draft : Draft) : Type 0 where
  pub key : AtKey schema draft
  pub room : HasRoom schema draft.attribute draft.line.keys

-- there is a key
pub record AtHead (schema : Schema) (draft : Draft) : Type 0 where
  pub key : AtKey schema draft
  pub some : 1 ≤ length draft.line.keys

-- the head is no key
pub record HasHead (schema : Schema) (draft : Draft) : Type 0 where
  pub head : draft.line.head < length schema.attributes
  pub no_key : has_attribute draft.line.keys draft.line.head ≡ false

-- the column of the head comes next
pub record AtFrom (schema : Schema) (draft : Draft) : Type 0 where
  pub keyed : AtHead schema draft
  pub headed : HasHead schema draft

-- the rule may be closed
pub record IsWhole (schema : Schema) (draft : Draft) : Type 0 where
  pub closed : HasLines schema draft
  pub named : HasName draft
  pub line : IsLine schema draft.line

-- the rule may be closed, and no set is open
pub record AtEnd (schema : Schema) (draft : Draft) : Type 0 where
  pub whole : IsWhole schema draft
  pub no_texts : draft.texts ≡ []

-- the attribute that is open may be asked for
pub record HasAsked (schema : Schema) (draft : Draft) : Type 0 where
  pub whole : IsWhole schema draft
  pub room : HasRoom schema draft.attribute draft.line.conds
  pub other : (draft.attribute == draft.line.head) ≡ false

-- the sense of a test and its texts are no part of what is known where it is asked
pub HasAsked-kept : (schema : Schema) (draft : Draft) (negated : Bool) (texts : List (List ℕ)) → HasAsked schema draft
    → HasAsked schema (record draft { negated = negated; texts = texts })
HasAsked-kept schema draft negated texts asked = record {
  whole = record {
    closed = record { lines = asked.whole.closed.lines; apart = asked.whole.closed.apart };
    named = record { name = asked.whole.named.name; free = asked.whole.named.free };
    line = asked.whole.line;
  };
  room = asked.room;
  other = asked.other;
}

-- what is asked of the attribute comes next
pub record AtTest (schema : Schema) (draft : Draft) : Type 0 where
  pub asked : HasAsked schema draft
  pub no_texts : draft.texts ≡ []

-- a text of a set comes next
pub record AtItem (schema : Schema) (draft : Draft) : Type 0 where
  pub asked : HasAsked schema draft
  pub fits : length draft.texts ≤ 64
  pub plain : AllByRecursion IsPlain draft.texts

-- the set may be closed
pub record AtClose (schema : Schema) (draft : Draft) : Type 0 where
  pub item : AtItem schema draft
  pub some : 1 ≤ length draft.texts

-- what it holds in a expected
abbrev pub Holds : Schema → Expected → Draft → Type 0
Holds schema expected.Rule draft = AtRule schema draft
Holds schema expected.Name draft = AtRule schema draft
Holds schema expected.From draft = AtMaster schema draft
Holds schema expected.Master draft = AtMaster schema draft
Holds schema expected.Colon draft = AtKey schema draft
Holds schema expected.Key draft = AtKey schema draft
Holds schema expected.KeyEquals draft = AtColumn schema draft
Holds schema expected.KeyColumn draft = AtColumn schema draft
Holds schema expected.AfterKey draft = AtHead schema draft
Holds schema expected.Head draft = AtHead schema draft
Holds schema expected.HeadEquals draft = AtFrom schema draft
Holds schema expected.HeadColumn draft = AtFrom schema draft
Holds schema expected.AfterHead draft = AtEnd schema draft
Holds schema expected.Cond draft = AtEnd schema draft
Holds schema expected.Test draft = AtTest schema draft
Holds schema expected.Negated draft = AtTest schema draft
Holds schema expected.Open draft = AtItem schema draft
Holds schema expected.Item draft = AtItem schema draft
Holds schema expected.AfterItem draft = AtClose schema draft
Holds schema expected.Const draft = AtTest schema draft
Holds schema expected.AfterCond draft = AtEnd schema draft

-- a text that is not too long has at most 200 bytes
pub not_long : (text : List ℕ) → is_long text ≡ false → length text ≤ 200
not_long text short = grind (arith, nat_tests)

-- the bytes of a word may stand in a string
pub word_plain : (bytes : List ℕ) → list_all is_word_byte bytes ≡ true → list_all is_plain bytes ≡ true
word_plain [] word = refl
word_plain (byte ∷ rest) word =
    let (first, others) = and_parts (is_word_byte byte) (list_all is_word_byte rest) word in
    let plain : is_plain byte ≡ true = grind (arith, nat_tests) in
    rw plain (word_plain rest others)

-- and are ASCII
pub word_ascii : (bytes : List ℕ) → list_all is_word_byte bytes ≡ true → IsAscii bytes
word_ascii [] word i = omega arith
word_ascii (byte ∷ rest) word zero =
    let (first, others) = and_parts (is_word_byte byte) (list_all is_word_byte rest) word in
    grind (arith, nat_tests)
word_ascii (byte ∷ rest) word (suc i) =
    let (first, others) = and_parts (is_word_byte byte) (list_all is_word_byte rest) word in
    word_ascii rest others i

-- what is taken as a column is plain, unless it is long
pub plain-column : (token : Token) → IsSpelled token → is_column token ≡ true → is_long (content token) ≡ false
    → IsPlain (content token)
plain-column (Word bytes) spelled column short = record {
  fits = not_long bytes short;
  plain = word_plain bytes
      spelled;
  utf8 = IsUtf8-from_ascii bytes (word_ascii bytes spelled);
}
plain-column (Quoted bytes) spelled column short = record {
  fits = not_long bytes short;
  plain = spelled.0;
  utf8 = spelled.1;
}
plain-column (Sign own) spelled column short = absurd cc

-- a string may stand for a column
pub quoted-column : (token : Token) → is_quoted token ≡ true → is_column token ≡ true
quoted-column (Word bytes) quoted = absurd cc
quoted-column (Quoted bytes) quoted = refl
quoted-column (Sign own) quoted = absurd cc

-- the content of a name is a word
pub name-word : (token : Token) → is_name token ≡ true → is_word (content token) ≡ true
name-word (Word bytes) name = name
name-word (Quoted bytes) name = absurd cc
name-word (Sign own) name = absurd cc

-- ---- what each part adds

module _ (schema : Schema) (place : Place) (draft after : Draft) where
  -- after a rule's name a master is expected
  pub hold-name : (name : List ℕ) → with_name name place draft ≡ Ok after → is_word name ≡ true → AtRule schema draft
      → AtMaster schema after
  hold-name name read word at =
      let (free, is) = unless-Ok _ _ _ _ read in
      subst (AtMaster schema) (same-draft _ _ is) (record {
        start = record {
          closed = record { lines = at.closed.lines; apart = at.closed.apart };
          no_keys = at.no_keys;
          no_conds = at.no_conds;
          no_texts = at.no_texts;
        };
        named = record { name = word; free = free };
      })

  -- after a key's column the draft is at a head
  pub hold-key_column : (column : List ℕ) → with_key_column column place draft ≡ Ok after
      → (is_long column ≡ false → IsPlain column) → AtColumn schema draft → AtHead schema after
  hold-key_column column read plain at =
      let (short, is) = unless-Ok _ _ _ _ read in
      subst (AtHead schema) (same-draft _ _ is) (record {
        key = record {
          closed = record { lines = at.key.closed.lines; apart = at.key.closed.apart };
          named = record { name = at.key.named.name; free = at.key.named.free };
          master = at.key.master;
          keys = ArePairs-push IsPlain schema draft.line.keys draft.attribute column at.key.keys at.room.room
              at.room.known at.room.free (plain short);
          no_conds = at.key.no_conds;
          no_texts = at.key.no_texts;
        };
        some = rw length-append (omega arith);
      })

  -- after a key's attribute the draft is at its column
  pub hold-key_of : (found : Option ℕ)
      → ((attribute : ℕ) → found ≡ Some attribute → attribute < length schema.attributes)
      → with_key_of found place draft ≡ Ok after → length draft.line.keys < 8 → AtKey schema draft
      → AtColumn schema after
  hold-key_of None known read room at = absurd cc
  hold-key_of (Some attribute) known read room at =
      let (free, is) = unless-Ok _ _ _ _ read in
      subst (AtColumn schema) (same-draft _ _ is) (record {
        key = record {
          closed = record { lines = at.closed.lines; apart = at.closed.apart };
          named = record { name = at.named.name; free = at.named.free };
          master = at.master;
          keys = at.keys;
          no_conds = at.no_conds;
          no_texts = at.no_texts;
        };
        room = record { room = room; known = known attribute refl; free = free };
      })

  -- after a head's attribute the draft is at its column
  pub hold-head_of : (found : Option ℕ)
      → ((attribute : ℕ) → found ≡ Some attribute → attribute < length schema.attributes)
      → with_head_of found place draft ≡ Ok after → AtHead schema draft → AtFrom schema after
  hold-head_of None known read at = absurd cc
  hold-head_of (Some attribute) known read at =
      let (free, is) = unless-Ok _ _ _ _ read in
      subst (AtFrom schema) (same-draft _ _ is) (record {
        keyed = record {
          key = record {
            closed = record { lines = at.key.closed.lines; apart = at.key.closed.apart };
            named = record { name = at.key.named.name; free = at.key.named.free };
            master = at.key.master;
            keys = at.key.keys;
            no_conds = at.key.no_conds;
            no_texts = at.key.no_texts;
          };
          some = at.some;
        };
        headed = record { head = known attribute refl; no_key = free };
      })

  -- after a head's column the draft is at the end of a rule
  pub hold-head_column : (column : List ℕ) → with_head_column column place draft ≡ Ok after
      → (is_long column ≡ false → IsPlain column) → AtFrom schema draft → AtEnd schema after
  hold-head_column column read plain at =
      let (short, is) = unless-Ok _ _ _ _ read in
      let key = at.keyed.key in
      let no_cond : has_attribute draft.line.conds draft.line.head ≡ false = rw key.no_conds refl in
      subst (AtEnd schema) (same-draft _ _ is) (record {
        whole = record {
          closed = record { lines = key.closed.lines; apart = key.closed.apart };
          named = record { name = key.named.name; free = key.named.free };
          line = record {
            name = key.named.name;
            master = key.master;
            some = at.keyed.some;
            keys = key.keys;
            head = at.headed.head;
            no_key = at.headed.no_key;
            from = plain short;
            conds = ArePairs-none IsPattern schema draft.line.conds key.no_conds;
            no_cond = no_cond;
          };
        };
        no_texts = key.no_texts;
      })

  -- after a condition's attribute the draft is at what it asks
  pub hold-asked_of : (found : Option ℕ)
      → ((attribute : ℕ) → found ≡ Some attribute → attribute < length schema.attributes)
      → with_asked_of found place draft ≡ Ok after → length draft.line.conds < 8 → AtEnd schema draft
      → AtTest schema after
  hold-asked_of None known read room at = absurd cc
  hold-asked_of (Some attribute) known read room at =
      let (free, more) = unless-Ok _ _ _ _ read in
      let (other, is) = unless-Ok _ _ _ _ more in
      subst (AtTest schema) (same-draft _ _ is) (record {
        asked = record {
          whole = record {
            closed = record { lines = at.whole.closed.lines; apart = at.whole.closed.apart };
            named = record { name = at.whole.named.name; free = at.whole.named.free };
            line = at.whole.line;
          };
          room = record { room = room; known = known attribute refl; free = free };
          other = other;
        };
        no_texts = at.no_texts;
      })

  -- after a text the draft is where its set may close
  pub hold-text : (text : List ℕ) → with_text text place draft ≡ Ok after → (is_long text ≡ false → IsPlain text)
      → AtItem schema draft → AtClose schema after
  hold-text text read plain at =
      let (room, more) = unless-Ok _ _ _ _ read in
      let (short, is) = unless-Ok _ _ _ _ more in
      let below : length draft.texts < 64 = grind (arith, nat_tests) in
      subst (AtClose schema) (same-draft _ _ is) (record {
        item = record {
          asked = HasAsked-kept schema draft draft.negated (draft.texts ++ text ∷ []) at.asked;
          fits = rw length-append (omega arith);
          plain = AllByRecursion-push IsPlain draft.texts text at.plain (plain short);
        };
        some = rw length-append (omega arith);
      })

-- a plain constant is a pattern of a rulebook
pub IsPattern-constant_of : (negated : Bool) (constant : List ℕ) → IsPlain constant → IsPattern (constant_of negated constant)
IsPattern-constant_of true constant plain = record { sized = λ set. absurd cc; plain = (plain, tt) }
IsPattern-constant_of false constant plain = record { sized = λ set. absurd cc; plain = (plain, tt) }

-- and so are 1 to 64 plain texts
pub IsPattern-set_of : (negated : Bool) (texts : List (List ℕ)) → (1 ≤ length texts) × (length texts ≤ 64)
    → AllByRecursion IsPlain texts → IsPattern (set_of negated texts)
IsPattern-set_of true texts sized plain = record { sized = λ set. sized; plain = plain }
IsPattern-set_of false texts sized plain = record { sized = λ set. sized; plain = plain }

-- and any text
pub IsPattern-Any : IsPattern Any
IsPattern-Any = record { sized = λ set. absurd cc; plain = tt }

-- a rule with one more condition may be closed
pub hold-cond : (schema : Schema) (pat : Pat) (draft : Draft) → IsPattern pat → HasAsked schema draft
    → IsWhole schema (with_cond pat draft)
hold-cond schema pat draft good at =
    let line = at.whole.line in
    record {
      closed = record { lines = at.whole.closed.lines; apart = at.whole.closed.apart };
      named = record { name = at.whole.named.name; free = at.whole.named.free };
      line = record {
        name = line.name;
        master = line.master;
        some = line.some;
        keys = line.keys;
        head = line.head;
        no_key = line.no_key;
        from = line.from;
        conds = ArePairs-push IsPattern schema draft.line.conds draft.attribute pat line.conds at.room.room
            at.room.known at.room.free good;
        no_cond = has_attribute-push draft.line.conds (draft.attribute, pat) draft.line.head line.no_cond
            (nat_eq-other draft.attribute draft.line.head at.other);
      };
    }

-- after a constant the draft is at the end of a rule
pub hold-constant : (schema : Schema) (negated : Bool) (constant : List ℕ) (place : Place) (draft after : Draft)
    → with_constant negated constant place draft ≡ Ok after → (is_long constant ≡ false → IsPlain constant)
    → AtTest schema draft → AtEnd schema after
hold-constant schema negated constant place draft after read plain at =
    let (short, is) = unless-Ok _ _ _ _ read in
    subst (AtEnd schema) (same-draft _ _ is)
    (record { whole = hold-cond schema (constant_of negated constant) draft (IsPattern-constant_of negated constant (plain short)) at.asked; no_texts = at.no_texts })

-- a rule that is closed is one more
pub hold-line : (schema : Schema) (draft : Draft) → IsWhole schema draft
    → AtRule schema (draft_following (draft.lines ++ draft.line ∷ []))
hold-line schema draft whole = record {
  closed = record {
    lines = AllByRecursion-push (IsLine schema) draft.lines draft.line whole.closed.lines whole.line;
    apart = AreNamedApart-push draft.lines draft.line whole.closed.apart whole.named.free;
  };
  no_keys = refl;
  no_conds = refl;
  no_texts = refl;
}

-- an attribute that is found is one of the schema's
pub known_attribute : (schema : Schema) (word : List ℕ) (attribute : ℕ) → attribute_of schema word ≡ Some attribute
    → attribute < length schema.attributes
known_attribute schema word attribute found = (position-Some (bytes_eq word) schema.attributes attribute [] found).0

-- what is not 8 or more is below 8
pub below_eight : (n : ℕ) → nat_le 8 n ≡ false → n < 8
below_eight n room = grind (arith, nat_tests)
