use Rattle.std.proofs.Common.{subst, sym}
use Rattle.desk_words.specs.declared.clerk_work.ClerkWork.{ClerkWork}
use Rattle.desk_words.specs.Tables.{published_of, rows_of}
use Rattle.machine_core.specs.Clerk.Carry.{carry}
use Rattle.machine_core.specs.Clerk.Confirm.{confirm}
use Rattle.machine_core.specs.Clerk.Enter.{enter}
use Rattle.machine_core.specs.Clerk.Withdraw.{withdraw}
use Rattle.machine_core.specs.Machine.{deed_of}
use Rattle.machine_core.specs.Outcomes.{Answers}
use Rattle.machine_core.proofs.Answering.{Answers-found}
use Rattle.machine_clerk.proofs.clerk.deed_of.Goals as goal

pub returns-in-Enter-clause-answers : goal.returns-in-Enter-clause-answers
returns-in-Enter-clause-answers c =
    let published = published_of (rows_of c.args.tables.now) in
    let own = c.args.own.now in
    let Does : ClerkWork → Type 0 = λ work. Answers c.enter_deed.result (deed_of published own work) in
    subst Does (sym c.in-Enter.is) (Answers-found (enter published own c.in-Enter.edition c.in-Enter.cells
    c.in-Enter.confirmed) c.enter_deed.result c.enter_deed.ensures.finds)

pub returns-in-Confirm-clause-answers : goal.returns-in-Confirm-clause-answers
returns-in-Confirm-clause-answers c =
    let published = published_of (rows_of c.args.tables.now) in
    let own = c.args.own.now in
    let finds = rw c.as_slice.ensures at c.confirm_deed.ensures.finds in
    let Does : ClerkWork → Type 0 = λ work. Answers c.confirm_deed.result (deed_of published own work) in
    subst Does (sym c.in-Confirm.is) (Answers-found (confirm published own c.in-Confirm.session c.in-Confirm.cells)
    c.confirm_deed.result finds)

pub returns-in-Withdraw-clause-answers : goal.returns-in-Withdraw-clause-answers
returns-in-Withdraw-clause-answers c =
    let published = published_of (rows_of c.args.tables.now) in
    let own = c.args.own.now in
    let finds = rw c.as_slice-in-Withdraw.ensures at c.withdraw_deed.ensures.finds in
    let Does : ClerkWork → Type 0 = λ work. Answers c.withdraw_deed.result (deed_of published own work) in
    subst Does (sym c.in-Withdraw.is) (Answers-found (withdraw published own c.in-Withdraw.session c.in-Withdraw.names)
    c.withdraw_deed.result finds)

pub returns-in-Commit-clause-answers : goal.returns-in-Commit-clause-answers
returns-in-Commit-clause-answers c =
    let Does : ClerkWork → Type 0 = λ work.
    Answers c.commit_deed.result (deed_of (published_of (rows_of c.args.tables.now)) c.args.own.now work) in
    subst Does (sym c.in-Commit.is) c.commit_deed.ensures.answers

pub returns-in-Carry-clause-answers : goal.returns-in-Carry-clause-answers
returns-in-Carry-clause-answers c =
    let published = published_of (rows_of c.args.tables.now) in
    let own = c.args.own.now in
    let Does : ClerkWork → Type 0 = λ work. Answers c.carry_deed.result (deed_of published own work) in
    subst Does (sym c.in-Carry.is) (Answers-found (carry published own c.in-Carry.session c.in-Carry.version)
    c.carry_deed.result c.carry_deed.ensures)
