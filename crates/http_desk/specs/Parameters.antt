-- The parameters of a target: the names and numbers of what a request is about.
use Rattle.std.specs.Prelude.{ℕ, List, [], ◌∷◌, codes, Ok, option_and_then}
use Rattle.matchit.specs.Params.{named}
use Rattle.http_cut.specs.declared.digits.TheConstants.{WRITE_DIGITS, NUMBER_DIGITS}
use Rattle.http_cut.specs.declared.route.Route.{Route as Target}
use Rattle.http_cut.specs.declared.route.Route.TheVariants as target
use Rattle.http_cut.specs.declared.route.StewardRoute.{StewardRoute}
use Rattle.http_cut.specs.declared.route.StewardRoute.TheVariants as of_steward
use Rattle.http_cut.specs.declared.route.ClerkRoute.{ClerkRoute}
use Rattle.http_cut.specs.declared.route.ClerkRoute.TheVariants as of_clerk
use Rattle.http_cut.specs.declared.route.LookRoute.{LookRoute}
use Rattle.http_cut.specs.declared.route.LookRoute.TheVariants as of_look
use Rattle.http_cut.specs.declared.route.DeskRoute.{DeskRoute}
use Rattle.http_cut.specs.declared.route.DeskRoute.TheVariants as of_desk
use Rattle.http_cut.specs.Numbers.{positive}
use Rattle.desk_words.specs.declared.desk_look.Publication.{Publication}
use Rattle.desk_words.specs.declared.desk_look.Publication.TheVariants as publication
use Rattle.desk_json.specs.declared.route.Route.{Route}
use Rattle.desk_json.specs.declared.route.Route.TheVariants.{AddClerk, AddSchema, AddMaster, AddRulebook, AddEdition}
use Rattle.desk_json.specs.declared.route.Route.TheVariants.{AddRegion, Enter, Confirm, Withdraw, Commit, Abandon}
use Rattle.desk_json.specs.declared.route.Route.TheVariants.{Batch, View, Suggest, Preview, Report, Records, DeskReport}
use Rattle.desk_json.specs.declared.route.Route.TheVariants.{Explain, DeskDerive, AddDerived, SeeCarry, Carry, Sessions}
use Rattle.desk_json.specs.declared.route.Route.TheVariants.{DeskPublished, DeskEdition, DeskRow, DeskRegion}
use Rattle.desk_json.specs.declared.route.Route.TheVariants.{Body, Choices, Blocked, DeskContradictions}
use Rattle.desk_json.specs.declared.route.Route.TheVariants.{CheckSchema, CheckMaster, CheckRulebook, CheckEdition}
use Rattle.desk_json.specs.declared.route.Route.TheVariants.{DeskDump}
use Rattle.desk_json.specs.Checked.{◌>>=◌}
use Rattle.http_desk.specs.Checked.{Checked, or_no_route}

-- each name of a pattern with the part of the target that it took
abbrev pub Parts : Type 0
Parts = List (List ℕ × List ℕ)

-- the text at this name; a target without it has no route
abbrev pub text_at : List ℕ → Parts → Checked (List ℕ)
text_at name parts = or_no_route (named name parts)

-- the number of at most so many digits at this name
abbrev pub number_at : ℕ → List ℕ → Parts → Checked ℕ
number_at most name parts = or_no_route (option_and_then (positive most) (named name parts))

-- ---- the parameters

-- what a pattern names: a text, or a number of at most so many digits
pub data Parameter : Type 0 where
  text : List ℕ → Parameter
  numeral : ℕ → List ℕ → Parameter

-- its name in a pattern
abbrev pub name_of : Parameter → List ℕ
name_of (text name) = name
name_of (numeral most name) = name

-- what is read there
abbrev pub Read : Parameter → Type 0
Read (text name) = List ℕ
Read (numeral most name) = ℕ

-- what is read at a parameter in the parts of a target
abbrev pub read_at : (parameter : Parameter) → Parts → Checked (Read parameter)
read_at (text name) parts = text_at name parts
read_at (numeral most name) parts = number_at most name parts

-- who asks
abbrev pub clerk : Parameter
clerk = text (codes "clerk")

-- the number of a write among its caller's
abbrev pub n : Parameter
n = numeral WRITE_DIGITS (codes "n")

-- the name of what a new version is of, or of the attribute that is asked about
abbrev pub name : Parameter
name = text (codes "name")

-- the schema that a rulebook is over
abbrev pub schema : Parameter
schema = text (codes "schema")

-- the edition that it is about
abbrev pub edition : Parameter
edition = text (codes "edition")

-- the version that it is about
abbrev pub version : Parameter
version = numeral NUMBER_DIGITS (codes "version")

-- the session that it is about
abbrev pub session : Parameter
session = numeral NUMBER_DIGITS (codes "session")

-- the session from which on others are listed
abbrev pub from : Parameter
from = numeral NUMBER_DIGITS (codes "from")

-- the master that it is about
abbrev pub master : Parameter
master = text (codes "master")

-- the row of the master that it is about
abbrev pub row : Parameter
row = numeral NUMBER_DIGITS (codes "row")

-- the region of the edition that it is about
abbrev pub region : Parameter
region = numeral NUMBER_DIGITS (codes "region")

-- the rule of the edition that it is about
abbrev pub rule : Parameter
rule = text (codes "rule")

-- the number of a write
abbrev pub write_in : Parts → Checked ℕ
write_in = read_at n

-- ---- the routes that are made of them

-- what makes a route of what is read at these parameters
abbrev pub Makes : List Parameter → Type 0
Makes [] = Route
Makes (parameter ∷ parameters) = Read parameter → Makes parameters

-- the route that is made of them, one after the other
abbrev pub made_from : (parameters : List Parameter) → Makes parameters → Parts → Checked Route
made_from [] route parts = Ok route
made_from (parameter ∷ parameters) make parts = do
  value ← read_at parameter parts
  made_from parameters (make value) parts

-- the parameters of a route that are its own, and what makes it of them
pub data Form : Type 0 where
  form : (parameters : List Parameter) → Makes parameters → Form

-- the route of a form
abbrev pub made_in : Form → Parts → Checked Route
made_in (form parameters make) parts = made_from parameters make parts

-- a write of the steward, with its number
abbrev pub steward_form : ℕ → StewardRoute → Form
steward_form number of_steward.AddClerk = form [] (AddClerk number)
steward_form number of_steward.AddSchema = form [] (AddSchema number)
steward_form number of_steward.AddMaster = form (name ∷ []) (AddMaster number)
steward_form number of_steward.AddRulebook = form (name ∷ schema ∷ version ∷ []) (AddRulebook number)
steward_form number of_steward.AddEdition = form (name ∷ []) (AddEdition number)
steward_form number of_steward.AddRegion = form (edition ∷ version ∷ []) (AddRegion number)
steward_form number of_steward.AddDerived = form (edition ∷ version ∷ []) (AddDerived number)

-- a write of this clerk, with its number
abbrev pub clerk_form : List ℕ → ℕ → ClerkRoute → Form
clerk_form caller number of_clerk.Enter = form (edition ∷ []) (Enter caller number)
clerk_form caller number of_clerk.Confirm = form (session ∷ []) (Confirm caller number)
clerk_form caller number of_clerk.Withdraw = form (session ∷ []) (Withdraw caller number)
clerk_form caller number of_clerk.Commit = form (session ∷ []) (Commit caller number)
clerk_form caller number of_clerk.Abandon = form (session ∷ []) (Abandon caller number)
clerk_form caller number of_clerk.Batch = form (edition ∷ []) (Batch caller number)
clerk_form caller number of_clerk.Carry = form (session ∷ []) (Carry caller number)

-- a look of this clerk
abbrev pub look_form : List ℕ → LookRoute → Form
look_form caller of_look.View = form (session ∷ []) (View caller)
look_form caller of_look.Suggest = form (session ∷ []) (Suggest caller)
look_form caller of_look.Preview = form (session ∷ []) (Preview caller)
look_form caller of_look.Report = form [] (Report caller)
look_form caller of_look.Records = form (edition ∷ version ∷ []) (Records caller)
look_form caller of_look.Explain = form (session ∷ name ∷ []) (Explain caller)
look_form caller of_look.SeeCarry = form (session ∷ version ∷ []) (SeeCarry caller)
look_form caller of_look.Sessions = form (from ∷ []) (Sessions caller)
look_form caller of_look.Choices = form (session ∷ []) (Choices caller)
look_form caller of_look.Blocked = form (session ∷ []) (Blocked caller)

-- a version of what was published as a text
abbrev pub body_form : Publication → Form
body_form what = form (name ∷ version ∷ []) (Body what)

-- what is asked for at the desk
abbrev pub desk_form : DeskRoute → Form
desk_form of_desk.DeskReport = form [] DeskReport
desk_form of_desk.DeskDerive = form (edition ∷ version ∷ []) DeskDerive
desk_form of_desk.DeskPublished = form [] DeskPublished
desk_form of_desk.DeskEdition = form (edition ∷ version ∷ []) DeskEdition
desk_form of_desk.DeskRow = form (master ∷ version ∷ row ∷ []) DeskRow
desk_form of_desk.DeskRegion = form (edition ∷ version ∷ region ∷ []) DeskRegion
desk_form of_desk.SchemaBody = body_form publication.Schema
desk_form of_desk.MasterBody = body_form publication.Master
desk_form of_desk.RulebookBody = body_form publication.Rulebook
desk_form of_desk.DeskContradictions = form (edition ∷ version ∷ rule ∷ []) DeskContradictions
desk_form of_desk.CheckSchema = form [] CheckSchema
desk_form of_desk.CheckMaster = form (name ∷ []) CheckMaster
desk_form of_desk.CheckRulebook = form (name ∷ schema ∷ version ∷ []) CheckRulebook
desk_form of_desk.CheckEdition = form (name ∷ []) CheckEdition
desk_form of_desk.DeskDump = form [] DeskDump

-- the route that a target asks for, with its parameters
abbrev pub route_in : Target → Parts → Checked Route
route_in (target.Steward asked) parts = do
  number ← write_in parts
  made_in (steward_form number asked) parts
route_in (target.Clerk asked) parts = do
  caller ← read_at clerk parts
  number ← write_in parts
  made_in (clerk_form caller number asked) parts
route_in (target.Look asked) parts = do
  caller ← read_at clerk parts
  made_in (look_form caller asked) parts
route_in (target.Desk asked) parts = made_in (desk_form asked) parts
