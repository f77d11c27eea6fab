-- In which order tokens come: what is expected, and which token may come there.
use Rattle.std.specs.Prelude.{codes, Bool, if◌then◌else◌, Option, Some, None}
use Rattle.rule_text.specs.declared.grammar.Expected.{Expected}
use Rattle.rule_text.specs.declared.grammar.Expected.TheVariants as expected
use Rattle.rule_text.specs.declared.token.Mark.TheVariants as mark
use Rattle.rule_text.specs.declared.token.Token.{Token}
use Rattle.rule_text.specs.Tokens.{is_keyword, is_name, is_quoted, is_column, is_sign}

-- what is expected next, where the token is taken
abbrev pub leads : Bool → Expected → Option Expected
leads taken expected = if taken then Some expected else None

-- after a key: another, or the head
abbrev pub after_key : Token → Option Expected
after_key token = if is_sign mark.Comma token then Some expected.Key else leads (is_sign mark.Arrow token) expected.Head

-- after the head: conditions, or the end of the rule
abbrev pub after_head : Token → Option Expected
after_head token =
    if is_keyword (codes "when") token then Some expected.Cond
    else leads (is_sign mark.Semicolon token) expected.Rule

-- after a condition's attribute: what it asks
abbrev pub test : Token → Option Expected
test token =
    if is_keyword (codes "is") token then Some expected.Const
    else if is_keyword (codes "not") token then Some expected.Negated
    else if is_keyword (codes "in") token then Some expected.Open
    else leads (is_keyword (codes "any") token) expected.AfterCond

-- after `not`: a text, or a set of them
abbrev pub negated : Token → Option Expected
negated token = if is_quoted token then Some expected.AfterCond else leads (is_keyword (codes "in") token) expected.Open

-- after a text of a set: another, or the end of the set
abbrev pub after_item : Token → Option Expected
after_item token =
    if is_sign mark.Comma token then Some expected.Item
    else leads (is_sign mark.Closing token) expected.AfterCond

-- after a condition: another, or the end of the rule
abbrev pub after_cond : Token → Option Expected
after_cond token =
    if is_sign mark.Comma token then Some expected.Cond
    else leads (is_sign mark.Semicolon token) expected.Rule

-- what is expected after a token, where it is what is expected now
unfoldable pub next : Expected → Token → Option Expected
next expected.Rule token = leads (is_keyword (codes "rule") token) expected.Name
next expected.Name token = leads (is_name token) expected.From
next expected.From token = leads (is_keyword (codes "from") token) expected.Master
next expected.Master token = leads (is_name token) expected.Colon
next expected.Colon token = leads (is_sign mark.Colon token) expected.Key
next expected.Key token = leads (is_name token) expected.KeyEquals
next expected.KeyEquals token = leads (is_sign mark.Equals token) expected.KeyColumn
next expected.KeyColumn token = leads (is_column token) expected.AfterKey
next expected.AfterKey token = after_key token
next expected.Head token = leads (is_name token) expected.HeadEquals
next expected.HeadEquals token = leads (is_sign mark.Equals token) expected.HeadColumn
next expected.HeadColumn token = leads (is_column token) expected.AfterHead
next expected.AfterHead token = after_head token
next expected.Cond token = leads (is_name token) expected.Test
next expected.Test token = test token
next expected.Negated token = negated token
next expected.Open token = leads (is_sign mark.Opening token) expected.Item
next expected.Item token = leads (is_quoted token) expected.AfterItem
next expected.AfterItem token = after_item token
next expected.Const token = leads (is_quoted token) expected.AfterCond
next expected.AfterCond token = after_cond token
