-- A new edition is good where it is put.
use Rattle.std.proofs.Common.{◌≡◌, ◌∙◌, ℕ, ◌+◌, ◌<◌, List, [], ◌∷◌, length, map, Option, Some, None, refl, sym, ap}
use Rattle.std.proofs.Common.{subst, arith}
use Rattle.std.specs.Prelude.{All, IfSome, Ok, option_map}
use Rattle.std.proofs.lemmas.Bool.Decides.{nat_tests}
use Rattle.std.proofs.lemmas.List.{length-append}
use Rattle.std.proofs.lemmas.List.Elements.{All-nil}
use Rattle.std.proofs.lemmas.Option.{option_and_then_some, same_Some}
use Rattle.desk_words.specs.declared.limit.Which.TheVariants as which
use Rattle.desk_words.specs.declared.rows.edition.EditionRow.{EditionRow}
use Rattle.desk_words.specs.declared.proposal.Proposal.TheVariants.{Edition}
use Rattle.desk_words.specs.declared.steward_work.StewardWork.TheVariants.{Publish}
use Rattle.desk_words.specs.Tables.{Published, Rows, published_of}
use Rattle.desk_valid.specs.Bindings.{parts_of}
use Rattle.desk_valid.specs.Readings.{all_of, master_at, rules_at}
use Rattle.desk_valid.specs.Rows.Edition.{IsBinding}
use Rattle.desk_valid.specs.Valid.{AreValid}
use Rattle.desk_valid.proofs.Named.{option_map-Some}
use Rattle.machine_core.specs.Checked.{each_following, Gives}
use Rattle.machine_core.specs.Machine.{making_of}
use Rattle.machine_core.specs.declared.making.Making.{Making}
use Rattle.machine_core.specs.Steward.AddEdition.{AreOthers, another_master, bindable, in_order, next_edition}
use Rattle.machine_core.proofs.InOrder.{AreFolded-in_order}
use Rattle.machine_core.proofs.Masters.{another-master}
use Rattle.machine_core.proofs.Tested.{each_following-all, each_following-length}
use Rattle.machine_core.proofs.Walks.{Met-Gives, Gives-Met}
use Rattle.machine_core.proofs.Commands.{few-stand}
use Rattle.machine_laws.proofs.Makings.{IsSoundMaking, IsVersion-next, place_of-within, IsSoundMaking-published}
use Rattle.machine_laws.proofs.Makings.{edition_making}

module _ (rows : Rows) (valid : AreValid rows) where
  -- what it binds to is bounded
  binds-narrowly : (row : EditionRow) (passed : Unit {0}) → Gives (bindable (published_of rows) row) (Ok passed)
      → IfSome (parts_of (published_of rows) row) (λ parts. All (λ attribute. attribute < length
      parts.rules.schema.attributes) row.folded → IsBinding parts row.folded)
  binds-narrowly row passed gives =
      let (parts, are, (kit, binds, narrow)) = Met-Gives (bindable (published_of rows) row) (Ok passed) gives in
      subst (λ found. IfSome found (λ parts. All (λ attribute. attribute < length parts.rules.schema.attributes)
      row.folded
      → IsBinding parts row.folded)) (sym are) (λ within. record {
        folded_within = within;
        kit = kit;
        binds = binds;
        narrow = grind (arith, nat_tests, narrow);
      })

  -- the attributes of its parts are those of its rulebook's schema
  parts-width : (row : EditionRow) (width : ℕ)
      → option_map (λ rules. length rules.schema.attributes) (rules_at (published_of rows) row.rulebook) ≡ Some width
      → IfSome (parts_of (published_of rows) row) (λ parts. length parts.rules.schema.attributes ≡ width)
  parts-width row width is =
      known (parts_of (published_of rows) row)
      (λ parts whole. option_and_then_some (λ rules. option_map (λ masters. record
      { rules = rules; masters = masters }) (all_of (map (master_at (published_of rows)) row.masters)))
      (rules_at (published_of rows) row.rulebook) parts whole (λ rules found rest.
      let masters = option_map-Some (λ masters. record { rules = rules; masters = masters })
      (all_of (map (master_at (published_of rows)) row.masters)) parts rest in
      ap (λ one. length one.rules.schema.attributes) (sym masters.2)
      ∙ same_Some (length rules.schema.attributes) width
      (ap (option_map (λ one. length one.schema.attributes)) (sym found)
      ∙ is)))
    where
      known : {T : Type 0} (found : Option T) {P : T → Type 0} → ((one : T) → found ≡ Some one → P one) → IfSome found P
      known None all = tt
      known (Some one) all = all one refl

  -- what it binds to, with the folded attributes below the width of its schema
  binds-within : (row : EditionRow) (width : ℕ) → All (λ attribute. attribute < width) row.folded
      → IfSome (parts_of (published_of rows) row) (λ parts. length parts.rules.schema.attributes ≡ width)
      → IfSome (parts_of (published_of rows) row) (λ parts. All (λ attribute. attribute < length
      parts.rules.schema.attributes) row.folded → IsBinding parts row.folded)
      → IfSome (parts_of (published_of rows) row) (λ parts. IsBinding parts row.folded)
  binds-within row width below same binds = joined (parts_of (published_of rows) row) same binds
      (λ parts is bound. bound (subst (λ most. All (λ attribute. attribute < most) row.folded) (sym is) below))
    where
      joined : {T : Type 0} {P Q R : T → Type 0} (found : Option T) → IfSome found P → IfSome found Q
          → ((one : T) → P one → Q one → R one) → IfSome found R
      joined None one other both = tt
      joined (Some value) one other both = both value one other

  -- a new edition
  pub IsSoundMaking-add_edition : (name : List ℕ) (rulebook : List ℕ × ℕ) (masters : List (List ℕ × ℕ))
      (folded : List (List ℕ)) (making : Making)
      → Gives (making_of rows (Publish (Edition name rulebook masters folded)))
      (Ok making)
      → IsSoundMaking rows making
  IsSoundMaking-add_edition name rulebook masters folded making gives =
      let published : Published = published_of rows in
      let (row, (_, named, (book, stands, (rules, found, (attributes, folds_are, rest)))), is) =
      Met-Gives (making_of rows (Publish (Edition name rulebook masters folded))) (Ok making) gives in
      let (_, few_masters, (places, are_places, (_, few, (bindable_so, binds, is_row)))) = rest in
      let words : List (List ℕ) = rules.schema.attributes in
      let made : EditionRow = next_edition rows.editions name book places (in_order attributes (length words)) in
      let given = Gives-Met (each_following [] (another_master rows.masters) masters) (Ok places) are_places in
      let few_it = few-stand which.Editions (length rows.editions + 1) few in
      let others : AreOthers published places = each_following-all (AreOthers published) (another_master rows.masters)
      masters [] places (λ before master place are found. another-master published before master place are found)
      (record {
        stand = All-nil (λ place. place < length rows.masters);
        apart = λ i j past before last. absurd (omega arith);
      })
      given in
      let width : option_map (λ one. length one.schema.attributes) (rules_at published book) ≡ Some (length words) =
      ap (option_map (λ one. length one.schema.attributes)) found in
      let folds = AreFolded-in_order rules.schema attributes in
      subst (IsSoundMaking rows) (sym (is ∙ ap (edition_making published) is_row))
      (IsSoundMaking-published rows valid (edition_making published made) (omega arith, omega (arith, few_it)) refl
      (record {
        few = omega (arith, few_it);
        version = IsVersion-next (λ one. one.name) rows.editions made name named;
        rulebook = place_of-within (λ one. one.name) (λ one. one.version) rows.rulebooks rulebook.0 rulebook.1 book
            stands;
        few_masters = omega (
          arith,
          each_following-length (another_master rows.masters) masters [] places given,
          few-stand which.EditionMasters (length masters) few_masters,
        );
        masters = others.stand;
        named_apart = others.apart;
        folded = folds.ascending;
        binds = binds-within made (length words) folds.within (parts-width made (length words) width)
            (binds-narrowly made bindable_so (Gives-Met (bindable published made) (Ok bindable_so) binds));
      }) (λ same. cc) tt (omega (arith, length-append rows.editions (made ∷ []))))
