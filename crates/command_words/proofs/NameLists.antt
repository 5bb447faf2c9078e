-- Names parted by commas, cut off one after the other.
use Rattle.std.proofs.Common.{◌≡◌, ◌==◌, true, false, List, [], ◌∷◌, ◌++◌, Option, Some, None, refl, ap, sym, ◌∙◌, append_assoc}
use Rattle.std.specs.Prelude.{if◌then◌else◌}
use Rattle.std.specs.List.{list_any, slice_split}
use Rattle.clap.specs.Words.{Text}
use Rattle.clap.proofs.CutLemmas.{Lacks, slice_split-Lacks, slice_split-at}
use Rattle.command_words.specs.Values.{is_empty, names_in}

abbrev pub parts : Text → List Text
parts text = slice_split (λ c. c == 44) text

-- the parts after the names so far, where none is empty
abbrev pub added : List Text → List Text → Option (List Text)
added done names = if list_any is_empty names then None else Some (done ++ names)

pub names_start : (text : Text) → names_in text ≡ added [] (parts text)
names_start text = refl

cut_at : (done : List Text) (text name after : Text) → text ≡ name ++ 44 ∷ after → Lacks 44 name → added done (parts text) ≡ added done (name ∷ parts after)
cut_at done text name after cut lacks = ap (λ t. added done (parts t)) cut ∙ ap (added done) (slice_split-at 44 name after lacks)

with_name : (done more : List Text) (name : Text) → is_empty name ≡ false → added done (name ∷ more) ≡ added (done ++ name ∷ []) more
with_name done more name some = rw some (ap (λ (l : List Text). if list_any is_empty more then None else Some l) (sym (append_assoc done (name ∷ []) more)))

with_empty : (done more : List Text) (name : Text) → is_empty name ≡ true → added done (name ∷ more) ≡ None
with_empty done more name none = rw none refl

-- a name is cut off
pub names_step : (done : List Text) (text name after : Text) → text ≡ name ++ 44 ∷ after → Lacks 44 name → is_empty name ≡ false → added done (parts text) ≡ added (done ++ name ∷ []) (parts after)
names_step done text name after cut lacks some = cut_at done text name after cut lacks ∙ with_name done (parts after) name some

-- a part is empty
pub names_stop : (done : List Text) (text name after : Text) → text ≡ name ++ 44 ∷ after → Lacks 44 name → is_empty name ≡ true → added done (parts text) ≡ None
names_stop done text name after cut lacks none = cut_at done text name after cut lacks ∙ with_empty done (parts after) name none

-- the last part
pub names_last : (done : List Text) (text : Text) → Lacks 44 text → is_empty text ≡ false → added done (parts text) ≡ Some (done ++ text ∷ [])
names_last done text lacks some = ap (added done) (slice_split-Lacks 44 text lacks) ∙ rw some refl

pub names_last_empty : (done : List Text) (text : Text) → Lacks 44 text → is_empty text ≡ true → added done (parts text) ≡ None
names_last_empty done text lacks none = ap (added done) (slice_split-Lacks 44 text lacks) ∙ with_empty done [] text none
