-- Rows of places, one part after another and beside other places.
use Rattle.std.proofs.Common.{◌≡◌, ℕ, ◌+◌, ◌<◌, ◌≤◌, List, [], ◌∷◌, ◌++◌, length, get_or, drop, refl, sym, ap, subst, ◌∙◌, arith, append_assoc, inl, inr}
use Rattle.std.specs.Prelude.{Option, Result, Ok, Err, IfOk, OnOk, OnErr}
use Rattle.std.specs.declared.alloc.Global.{Global}
use Rattle.std.specs.declared.vec.Vec.{Vec}
use Rattle.std.specs.Io.KnownBytes.{Appends}
use Rattle.std.proofs.lemmas.List.{append-nil, drop_more}
use Rattle.std.proofs.Math.ListN.{drop_of_length-le}
use Rattle.cm_store.specs.Contents.{Contents}
use Rattle.cm_store.specs.Writing.{AppendsFront}
use Rattle.cm_store.specs.declared.store.Entry.{Entry}
use Rattle.command_words.specs.declared.invocation.Invocation.{Invocation}
use Rattle.run_report.specs.Counting.{counted}
use Rattle.run_report.specs.Texts.{row_line}
use Rattle.run_report.specs.declared.counts.Counts.{Counts}
use Rattle.run_report.specs.declared.answer.RowAnswer.{RowAnswer}
use Rattle.run_report.specs.declared.answer.RowAnswer.TheVariants.{Error}
use Rattle.run_report.specs.declared.answer.RowError.{RowError}
use Rattle.codemod_cmd.specs.Rows.{Row, refused, leaves, after, faults_in, faults_of, Rises, shown_all, counted_all}
use Rattle.codemod_cmd.specs.Folders.{Place, place, places, inside, unnamed_rows, IsFile, IsFolder, IsUnlisted, Goes, no_row, a_file, no_file, a_folder}
use Rattle.codemod_cmd.specs.Session.{Outside, Stays, Passes, FileTells, FileBreaks, Runs, Tells, Breaks}
use Rattle.codemod_cmd.specs.declared.folder.Pending.{Pending}
use Rattle.codemod_cmd.specs.declared.stop.Stop.{Stop}
use Rattle.codemod_cmd.proofs.Fronts.{nothing_appended, front_none, appends_both, front_after}
use Rattle.codemod_cmd.proofs.Rowed.{after_then, counted_then, shown_then, shown_one, faults_then, rises_then, rises_later, rises_none, rises_one, after_unnamed, unnamed_faults}

module _ (says : List ℕ → RowAnswer → List ℕ → Type 0) (command : Invocation) where
  goes_then : (ps : List Place) (held : Option Contents) (xs : List (List ℕ × Row)) (qs : List Place) (ys : List (List ℕ × Row)) (rest : List Place)
      → Goes says command ps held xs qs → Goes says command qs (after command.dry held xs) ys rest → Goes says command ps held (xs ++ ys) rest
  goes_then _ _ _ _ ys rest (no_row ps held) more = more
  goes_then _ _ _ _ ys rest (a_file p ps qs held row rows is comes goes) more =
      a_file p ps rest held row (rows ++ ys) is comes (goes_then ps (leaves command.dry held p.name row) rows qs ys rest goes more)
  goes_then _ _ _ _ ys rest (no_file p ps qs held error rows is goes) more = no_file p ps rest held error (rows ++ ys) is (goes_then ps held rows qs ys rest goes more)
  goes_then _ _ _ _ ys rest (a_folder p ps qs held entries unnamed rows is goes) more =
      let inner = places (p.level + 1) (inside command.extensions p.name entries) ++ ps in
      let later = subst (λ h. Goes says command qs h ys rest) (after_unnamed command.dry held p.name unnamed rows) more in
      subst (λ r. Goes says command (p ∷ ps) held r rest) (sym (append_assoc (unnamed_rows p.name unnamed) rows ys))
      (a_folder p ps rest held entries unnamed (rows ++ ys) is (goes_then inner held rows qs ys rest goes later))

  goes_more : (ps : List Place) (held : Option Contents) (rows : List (List ℕ × Row)) (rest ks : List Place) → Goes says command ps held rows rest → Goes says command (ps ++ ks) held rows (rest ++ ks)
  goes_more _ _ _ _ ks (no_row ps held) = no_row (ps ++ ks) held
  goes_more _ _ _ _ ks (a_file p ps rest held row rows is comes goes) =
      a_file p (ps ++ ks) (rest ++ ks) held row rows is comes (goes_more ps (leaves command.dry held p.name row) rows rest ks goes)
  goes_more _ _ _ _ ks (no_file p ps rest held error rows is goes) = no_file p (ps ++ ks) (rest ++ ks) held error rows is (goes_more ps held rows rest ks goes)
  goes_more _ _ _ _ ks (a_folder p ps rest held entries unnamed rows is goes) =
      let inner = places (p.level + 1) (inside command.extensions p.name entries) in
      let more = subst (λ q. Goes says command q held rows (rest ++ ks)) (append_assoc inner ps ks) (goes_more (inner ++ ps) held rows rest ks goes) in
      a_folder p (ps ++ ks) (rest ++ ks) held entries unnamed rows is more

  runs_then : (ps qs rest : List Place) (xs ys : List (List ℕ × Row)) (w v u : Outside) → Runs says command ps qs xs w v → Runs says command qs rest ys v u → Runs says command ps rest (xs ++ ys) w u
  runs_then ps qs rest xs ys w v u p q = record {
    goes = goes_then ps w.held xs qs ys rest p.goes (subst (λ h. Goes says command qs h ys rest) p.held q.goes);
    held = q.held ∙ ap (λ h. after command.dry h ys) p.held ∙ sym (after_then command.dry w.held xs ys);
    failed = rises_then (faults_of xs) (faults_of ys) (faults_of (xs ++ ys)) w.failed v.failed u.failed (faults_then xs ys) p.failed q.failed;
  }

  runs_more : (ps rest ks : List Place) (rows : List (List ℕ × Row)) (w v : Outside) → Runs says command ps rest rows w v → Runs says command (ps ++ ks) (rest ++ ks) rows w v
  runs_more ps rest ks rows w v p = record { goes = goes_more ps w.held rows rest ks p.goes; held = p.held; failed = p.failed }

  -- nothing was done before
  pub runs_moved : (ps rest : List Place) (rows : List (List ℕ × Row)) (w x v : Outside) → Stays w x → Runs says command ps rest rows x v → Runs says command ps rest rows w v
  runs_moved ps rest rows w x v s p = record {
    goes = subst (λ h. Goes says command ps h rows rest) s.held p.goes;
    held = p.held ∙ ap (λ h. after command.dry h rows) s.held;
    failed = rises_later (faults_of rows) w.failed x.failed v.failed s.failed p.failed;
  }

  pub tells_then : (ps qs rest : List Place) (c d e : Counts) (w v u : Outside) → Tells says command ps qs c d w v → Tells says command qs rest d e v u → Tells says command ps rest c e w u
  tells_then ps qs rest c d e w v u p q = (
    p.0 ++ q.0,
    runs_then ps qs rest p.0 q.0 w v u p.1 q.1,
    subst (λ b. Appends w.taken u.taken b) (sym (shown_then command.print p.0 q.0)) (appends_both w.taken v.taken u.taken (shown_all command.print p.0) (shown_all command.print q.0) p.2 q.2),
    q.3 ∙ ap (λ n. counted_all n q.0) p.3 ∙ sym (counted_then c p.0 q.0),
  )

  pub tells_more : (ps rest ks : List Place) (c d : Counts) (w v : Outside) → Tells says command ps rest c d w v → Tells says command (ps ++ ks) (rest ++ ks) c d w v
  tells_more ps rest ks c d w v p = (p.0, runs_more ps rest ks p.0 w v p.1, p.2, p.3)

  pub tells_moved : (ps rest : List Place) (c d : Counts) (w x v : Outside) → Stays w x → Tells says command ps rest c d x v → Tells says command ps rest c d w v
  tells_moved ps rest c d w x v s p = (p.0, runs_moved ps rest p.0 w x v s p.1, subst (λ b. Appends b v.taken (shown_all command.print p.0)) s.taken p.2, p.3)

  pub tells_none : (ps : List Place) (c : Counts) (w : Outside) → Tells says command ps ps c c w w
  tells_none ps c w = ([], record { goes = no_row ps w.held; held = refl; failed = rises_none w.failed w.failed (omega arith) }, nothing_appended w.taken, refl)

  pub breaks_then : (ps qs : List Place) (c d : Counts) (w v u : Outside) → Tells says command ps qs c d w v → Breaks says command qs v u → Breaks says command ps w u
  breaks_then ps qs c d w v u p q = (
    p.0 ++ q.0,
    q.1,
    runs_then ps qs q.1 p.0 q.0 w v u p.1 q.2,
    subst (λ b. AppendsFront w.taken u.taken b) (sym (shown_then command.print p.0 q.0)) (front_after w.taken v.taken u.taken (shown_all command.print p.0) (shown_all command.print q.0) p.2 q.3),
  )

  pub breaks_more : (ps ks : List Place) (w v : Outside) → Breaks says command ps w v → Breaks says command (ps ++ ks) w v
  breaks_more ps ks w v p = (p.0, p.1 ++ ks, runs_more ps p.1 ks p.0 w v p.2, p.3)

  pub breaks_moved : (ps : List Place) (w x v : Outside) → Stays w x → Breaks says command ps x v → Breaks says command ps w v
  breaks_moved ps w x v s p = (p.0, p.1, runs_moved ps p.1 p.0 w x v s p.2, subst (λ b. AppendsFront b v.taken (shown_all command.print p.0)) s.taken p.3)

  pub breaks_none : (ps : List Place) (w v : Outside) → Stays w v → Breaks says command ps w v
  breaks_none ps w v s = ([], ps, record { goes = no_row ps w.held; held = s.held; failed = rises_none w.failed v.failed s.failed }, front_none w.taken v.taken [] s.taken)

  -- a file
  runs_file : (p : Place) (row : Row) (w v : Outside) → IsFile w.held p → Passes says command.dry p.name row w v → Runs says command (p ∷ []) [] ((p.name, row) ∷ []) w v
  runs_file p row w v is passes = record {
    goes = a_file p [] [] w.held row [] is passes.is (no_row [] (leaves command.dry w.held p.name row));
    held = passes.held;
    failed = rises_one p.name row w.failed v.failed passes.failed;
  }

  pub tells_file : (p : Place) (c d : Counts) (w v : Outside) → IsFile w.held p → FileTells says command p.name c d w v → Tells says command (p ∷ []) [] c d w v
  tells_file p c d w v is h = (
    (p.name, h.0) ∷ [],
    runs_file p h.0 w v is h.1,
    subst (λ b. Appends w.taken v.taken b) (shown_one command.print p.name h.0) h.2,
    h.3,
  )

  pub breaks_file : (p : Place) (w v : Outside) → IsFile w.held p → FileBreaks says command p.name w v → Breaks says command (p ∷ []) w v
  breaks_file p w v is (inl stays) = breaks_none (p ∷ []) w v stays
  breaks_file p w v is (inr h) = (
    (p.name, h.0) ∷ [],
    [],
    runs_file p h.0 w v is h.1,
    subst (λ b. AppendsFront w.taken v.taken b) (shown_one command.print p.name h.0) h.2,
  )

  -- a name without a file
  runs_refused : (p : Place) (error : RowError) (w v : Outside) → IsUnlisted w.held p error → v.held ≡ w.held → Rises (faults_in error) w.failed v.failed
      → Runs says command (p ∷ []) [] ((p.name, refused error) ∷ []) w v
  runs_refused p error w v is held failed = record {
    goes = no_file p [] [] w.held error [] is (no_row [] w.held);
    held = held;
    failed = rises_one p.name (refused error) w.failed v.failed failed;
  }

  pub tells_refused : (p : Place) (error : RowError) (c d : Counts) (w v : Outside) → IsUnlisted w.held p error → v.held ≡ w.held → Rises (faults_in error) w.failed v.failed
      → Appends w.taken v.taken (row_line p.name (Error error)) → d ≡ counted c (Error error) → Tells says command (p ∷ []) [] c d w v
  tells_refused p error c d w v is held failed taken counts = (
    (p.name, refused error) ∷ [],
    runs_refused p error w v is held failed,
    subst (λ b. Appends w.taken v.taken b) (shown_one command.print p.name (refused error)) taken,
    counts,
  )

  pub breaks_refused : (p : Place) (error : RowError) (w v : Outside) → IsUnlisted w.held p error → v.held ≡ w.held → Rises (faults_in error) w.failed v.failed
      → AppendsFront w.taken v.taken (row_line p.name (Error error)) → Breaks says command (p ∷ []) w v
  breaks_refused p error w v is held failed taken = (
    (p.name, refused error) ∷ [],
    [],
    runs_refused p error w v is held failed,
    subst (λ b. AppendsFront w.taken v.taken b) (shown_one command.print p.name (refused error)) taken,
  )

  -- a folder, before what stands in it
  runs_folder : (p : Place) (entries : List Entry) (unnamed : ℕ) (w v : Outside) → IsFolder w.held p entries unnamed → v.held ≡ w.held → w.failed ≤ v.failed
      → Runs says command (p ∷ []) (places (p.level + 1) (inside command.extensions p.name entries)) (unnamed_rows p.name unnamed) w v
  runs_folder p entries unnamed w v is held failed =
      let inner = places (p.level + 1) (inside command.extensions p.name entries) in
      let rows = unnamed_rows p.name unnamed in
      let begun = subst (λ q. Goes says command q w.held [] inner) (sym (append-nil inner)) (no_row inner w.held) in
      let same : rows ++ [] ≡ rows = append-nil rows in
      record {
        goes = subst (λ r. Goes says command (p ∷ []) w.held r inner) same (a_folder p [] inner w.held entries unnamed [] is begun);
        held = held ∙ sym (ap (after command.dry w.held) (sym same) ∙ after_unnamed command.dry w.held p.name unnamed []);
        failed = subst (λ n. Rises n w.failed v.failed) (sym (unnamed_faults p.name unnamed)) (rises_none w.failed v.failed failed);
      }

  pub tells_folder : (p : Place) (entries : List Entry) (unnamed : ℕ) (c d : Counts) (w v : Outside) → IsFolder w.held p entries unnamed → v.held ≡ w.held → w.failed ≤ v.failed
      → Appends w.taken v.taken (shown_all command.print (unnamed_rows p.name unnamed)) → d ≡ counted_all c (unnamed_rows p.name unnamed)
      → Tells says command (p ∷ []) (places (p.level + 1) (inside command.extensions p.name entries)) c d w v
  tells_folder p entries unnamed c d w v is held failed taken counts = (unnamed_rows p.name unnamed, runs_folder p entries unnamed w v is held failed, taken, counts)

  pub breaks_folder : (p : Place) (entries : List Entry) (unnamed : ℕ) (w v : Outside) → IsFolder w.held p entries unnamed → v.held ≡ w.held → w.failed ≤ v.failed
      → AppendsFront w.taken v.taken (shown_all command.print (unnamed_rows p.name unnamed)) → Breaks says command (p ∷ []) w v
  breaks_folder p entries unnamed w v is held failed taken =
      (unnamed_rows p.name unnamed, places (p.level + 1) (inside command.extensions p.name entries), runs_folder p entries unnamed w v is held failed, taken)

  -- what is answered to a folder that is opened
  pub tells_opened : (p : Place) (entries : List Entry) (unnamed : ℕ) (c d : Counts) (w v : Outside) (r : Result (Vec Pending Global) Stop) → IsFolder w.held p entries unnamed → v.held ≡ w.held → w.failed ≤ v.failed
      → IfOk r (λ names. names.items ≡ inside command.extensions p.name entries) → OnOk r (Appends w.taken v.taken (shown_all command.print (unnamed_rows p.name unnamed)))
      → OnOk r (d ≡ counted_all c (unnamed_rows p.name unnamed)) → IfOk r (λ names. Tells says command (p ∷ []) (places (p.level + 1) names.items) c d w v)
  tells_opened p entries unnamed c d w v (Ok names) is held failed same taken counts =
      subst (λ l. Tells says command (p ∷ []) (places (p.level + 1) l) c d w v) (sym same) (tells_folder p entries unnamed c d w v is held failed taken counts)
  tells_opened p entries unnamed c d w v (Err stop) is held failed same taken counts = tt

  pub breaks_opened : (p : Place) (entries : List Entry) (unnamed : ℕ) (w v : Outside) (r : Result (Vec Pending Global) Stop) → IsFolder w.held p entries unnamed → v.held ≡ w.held → w.failed ≤ v.failed
      → OnErr r (AppendsFront w.taken v.taken (shown_all command.print (unnamed_rows p.name unnamed))) → OnErr r (Breaks says command (p ∷ []) w v)
  breaks_opened p entries unnamed w v (Ok names) is held failed taken = tt
  breaks_opened p entries unnamed w v (Err stop) is held failed taken = breaks_folder p entries unnamed w v is held failed taken

  -- names, one after another
  module _ (level : ℕ) (names : List Pending) (c0 : Counts) (w : Outside) where
    -- those before this one have their rows
    abbrev pub Gone : ℕ → Counts → Outside → Type 0
    Gone i c u = Tells says command (places level names) (places level (drop i names)) c0 c w u

    here : (i : ℕ) (item : Pending) → i < length names → item ≡ get_or names i item → places level (drop i names) ≡ place level item ∷ places level (drop (i + 1) names)
    here i item lt at = ap (places level) (drop_more names i item lt) ∙ ap (λ x. place level x ∷ places level (drop (i + 1) names)) (sym at)

    gone_to : (i : ℕ) (item : Pending) (c : Counts) (u : Outside) → i < length names → item ≡ get_or names i item → Gone i c u
        → Tells says command (places level names) (place level item ∷ places level (drop (i + 1) names)) c0 c w u
    gone_to i item c u lt at gone = subst (λ q. Tells says command (places level names) q c0 c w u) (here i item lt at) gone

    pub gone_on : (i : ℕ) (item : Pending) (qs : List Place) (c d e : Counts) (u x y : Outside) → i < length names → item ≡ get_or names i item → Gone i c u
        → Tells says command (place level item ∷ []) qs c d u x → Tells says command qs [] d e x y → Gone (i + 1) e y
    gone_on i item qs c d e u x y lt at gone own inner =
        let ks = places level (drop (i + 1) names) in
        let one = tells_more (place level item ∷ []) [] ks c e u y (tells_then (place level item ∷ []) qs [] c d e u x y own inner) in
        tells_then (places level names) (place level item ∷ ks) ks c0 c e w u y (gone_to i item c u lt at gone) one

    pub broken : (i : ℕ) (item : Pending) (c : Counts) (u x : Outside) → i < length names → item ≡ get_or names i item → Gone i c u → Breaks says command (place level item ∷ []) u x
        → Breaks says command (places level names) w x
    broken i item c u x lt at gone own =
        let ks = places level (drop (i + 1) names) in
        breaks_then (places level names) (place level item ∷ ks) c0 c w u x (gone_to i item c u lt at gone) (breaks_more (place level item ∷ []) ks u x own)

    pub broken_inside : (i : ℕ) (item : Pending) (qs : List Place) (c d : Counts) (u x y : Outside) → i < length names → item ≡ get_or names i item → Gone i c u
        → Tells says command (place level item ∷ []) qs c d u x → Breaks says command qs x y → Breaks says command (places level names) w y
    broken_inside i item qs c d u x y lt at gone own inner = broken i item c u y lt at gone (breaks_then (place level item ∷ []) qs c d u x y own inner)

    pub all_gone : (i : ℕ) (c : Counts) (u : Outside) → length names ≤ i → Gone i c u → Tells says command (places level names) [] c0 c w u
    all_gone i c u le gone = subst (λ q. Tells says command (places level names) q c0 c w u) (ap (places level) (drop_of_length-le names le)) gone
