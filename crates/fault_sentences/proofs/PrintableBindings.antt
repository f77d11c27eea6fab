-- The sentences on rules that do not bind are printable ASCII.
use Rattle.std.proofs.Common.{ℕ, List, [], refl}
use Rattle.std.specs.Prelude.{Option, Some, None}
use Rattle.std.specs.Option.{option_map_or}
use Rattle.std.proofs.lemmas.List.Folds.{list_all-append}
use Rattle.master_rows.specs.declared.master.Master.{Master}
use Rattle.rule_text.specs.declared.binding.BindFault.{BindFault}
use Rattle.rule_text.specs.declared.binding.BindFault.TheVariants as fault
use Rattle.rule_text.specs.declared.rulebook.RuleLine.{RuleLine}
use Rattle.rule_text.specs.declared.rulebook.Rulebook.{Rulebook}
use Rattle.fault_sentences.specs.declared.bindings.Over.{Over}
use Rattle.fault_sentences.specs.declared.bindings.Over.TheVariants.{Edition, Given, Desk}
use Rattle.fault_sentences.specs.Bindings.{bind_sentence, columns_of, index_sentence}
use Rattle.fault_sentences.specs.Bindings.{lacking, lacks, line_at, no_column}
use Rattle.fault_sentences.specs.Bindings.{no_master, wants_column}
use Rattle.fault_sentences.specs.Printable.{IsPrintable}
use Rattle.fault_sentences.proofs.Printable.{decimal-printable, if-same, list_all-if, listed-printable, shown-printable}

-- who has not what is looked for
pub lacks-printable : (over : Over) → IsPrintable (lacks over)
lacks-printable Edition = refl
lacks-printable Given = refl
lacks-printable Desk = refl

-- what is told of a rule that is there
line-printable : (told : RuleLine → List ℕ) (line : Option RuleLine) → ((one : RuleLine) → IsPrintable (told one))
    → IsPrintable (option_map_or told line [])
line-printable told None is = refl
line-printable told (Some line) is = is line

-- the sentence on a binding
pub bind_sentence-printable : (fault : BindFault) (over : Over) (rulebook : Rulebook) (masters : List (List ℕ × Master))
    → IsPrintable (bind_sentence fault over rulebook masters)
unfolding bind_sentence no_master no_column wants_column lacking
bind_sentence-printable (fault.NoMaster number) over rulebook masters =
    line-printable (no_master over) (line_at rulebook number)
    (λ line. simp (list_all-append, shown-printable, lacks-printable))
bind_sentence-printable (fault.NoColumn number place) over rulebook masters =
    line-printable (λ line. no_column line place (columns_of masters line.master)) (line_at rulebook number)
    (λ line. simp (list_all-if, if-same, list_all-append, shown-printable, listed-printable))
bind_sentence-printable fault.NoMemory over rulebook masters = refl

-- on an index
pub index_sentence-printable : (entries : ℕ) → IsPrintable (index_sentence entries)
unfolding index_sentence
index_sentence-printable entries = simp (list_all-append, decimal-printable)
