use Rattle.sqlite.specs.WalFiles.{image_at}
use Rattle.desk_words.specs.Tables.{rows_of}
use Rattle.keeper_sqlite.proofs.Opened.{failed_loaded, fails_open, files_kept, found_loaded, keeps_open, spared_loaded}
use Rattle.keeper_sqlite.proofs.files.FileKeeper+S+FileStore+FileFrom+S.load_once.Goals as goal

pub returns-in-Err-clause-leaves : goal.returns-in-Err-clause-leaves
returns-in-Err-clause-leaves g c = rw c.in-Err.ensures.refused.0 (record {
  held = tt;
  keeps = tt;
  lasts = tt;
  fails = λ failed. tt;
})

pub returns-in-Err-clause-first : goal.returns-in-Err-clause-first
returns-in-Err-clause-first g c = rw c.in-Err.ensures.refused.1 (record {
  found = λ first. tt;
  spares = λ first. tt;
  fails_first = λ failed first. tt;
})

pub returns-clause-leaves : goal.returns-clause-leaves
returns-clause-leaves g c =
    let same = rw (← c.self.view_is) at c.open_once.ensures.same in
    let leaves = c.load_opened.ensures.leaves in
    record {
      held = leaves.held;
      keeps = keeps_open c.args.self.now.tables c.self.inside.tables c.load_opened.new.tables same leaves.keeps;
      lasts = leaves.lasts;
      fails = λ failed. fails_open c.args.self.now.tables c.self.inside.tables c.load_opened.new.tables same
          (leaves.fails failed);
    }

pub returns-clause-first : goal.returns-clause-first
returns-clause-first g c =
    let opened = rw (← c.self.view_is) at c.in_default.ensures.opened in
    let found = rw (← c.self.view_is) at c.open_once.ensures.found in
    let unloaded = rw (← c.self.view_is) at c.open_once.ensures.unloaded in
    let leaves = c.load_opened.ensures.leaves in
    record {
      found = λ first. found_loaded (image_at g.S.Start) c.self.inside.tables c.load_opened.new.tables opened
          (found first) leaves.keeps;
      spares = λ first. spared_loaded (image_at g.S.Start) c.self.inside.tables c.load_opened.new.tables
          c.load_opened.result opened (found first) leaves.keeps c.load_opened.ensures.spares;
      fails_first = λ failed first. failed_loaded (image_at g.S.Start) c.self.inside.tables c.load_opened.new.tables
          opened (unloaded first) (found first) leaves.keeps (leaves.fails failed);
    }

pub returns-clause-kept : goal.returns-clause-kept
returns-clause-kept g c =
    let same = rw (← c.self.view_is) at c.open_once.ensures.same in
    let opened = rw (← c.self.view_is) at c.in_default.ensures.opened in
    let found = rw (← c.self.view_is) at c.open_once.ensures.found in
    let leaves = c.load_opened.ensures.leaves in
    files_kept rows_of (image_at g.S.Start) c.args.self.now.tables c.load_opened.new.tables c.load_opened.result
    (keeps_open c.args.self.now.tables c.self.inside.tables c.load_opened.new.tables same leaves.keeps)
    (λ first. found_loaded (image_at g.S.Start) c.self.inside.tables c.load_opened.new.tables opened (found first)
    leaves.keeps) leaves.held
