-- Rests on the ID being written as text, and on the texts together being the acknowledgement.
use mathlib.Core.Path.{◌≡◌, ap, ap₂, ◌∙◌}
use mathlib.Core.List.{List, [], ◌++◌}
use Prim.Native.Nat.{ℕ}
use lib.ListN.{length, take, drop}
use lib.Seq.{take-append_seam}
use native.Mathlib.Omega.{arith}
use Rattle.alphabet.specs.Delimiters.{first_wrong_delimiter}
use Rattle.reading.specs.Segments.{delimiters_of}
use Rattle.reading.specs.Message.{Opened}
use Rattle.escaping.specs.Escape.{escape}
use Rattle.escaping.specs.Outcomes.{Outcome, answer, filled}
use Rattle.acknowledgement.specs.Acknowledgement.{roomy, acknowledgement}
use Rattle.together.specs.Together.{together}
use Rattle.acknowledgement.specs.Pieces.{fixed_text, pieces}
use Rattle.acknowledgement.proofs.HeaderLaws.{so_sound}
use Rattle.acknowledgement.proofs.PieceLaws.{pieces_together}
use Rattle.acknowledgement.proofs.pieces.write.Goals.{After-put_id-n, After-fixed_text-fixed, Start}
use Rattle.acknowledgement.proofs.pieces.write.Goals as goal

opened : (s : Start) → Opened s.args.header.bytes.now
opened s = (so_sound s.args.header.bytes.now s.args.header.sound).opened

-- what is handed on is the ID as text
handed : (c : After-put_id-n)
    → let a = c.args in
    take c.put_id-n.result c.put_id-n.new.buffer ≡ escape (delimiters_of a.header.bytes.now) a.id.now
handed c =
    let a = c.args in
    let w = escape c.delimiters_of-delimiters.result.bytes a.id.now in
    ap₂ (λ (n : ℕ) (x : List ℕ). take n x) c.put_id-n.ensures.value c.put_id-n.ensures.buffer_after ∙ take-append_seam w (drop (length w) c.zeros-escaped.result)
    ∙ ap (λ (ds : List ℕ). escape ds a.id.now) c.delimiters_of-delimiters.ensures

pub put_id-n-requires : goal.put_id-n-requires
put_id-n-requires c =
    (ap first_wrong_delimiter c.delimiters_of-delimiters.ensures ∙ (opened (goal.at.put_id-n-requires c).Start).delimiters_right, c.requires, c.zeros-escaped.ensures)

-- the pieces that are written are the acknowledgement
written : (c : After-fixed_text-fixed)
    → let a = c.args in
    let d = a.buffer.now in
    roomy (length d) (together (pieces a.header.bytes.now a.time.now (take c.put_id-n.result c.put_id-n.new.buffer) c.fixed_text-fixed.result a.behind.now))
    ≡ roomy (length d) (acknowledgement a.header.bytes.now a.time.now a.id.now a.code [] ++ a.behind.now)
written c =
    let a = c.args in
    let h = a.header.bytes.now in
    let d = a.buffer.now in
    let o = opened (goal.at.After-fixed_text-fixed c).Start in
    let n = o.nine_bytes in
    ap₂ (λ (x f : List ℕ). roomy (length d) (together (pieces h a.time.now x f a.behind.now))) (handed (goal.at.After-fixed_text-fixed c).After-put_id-n) (c.fixed_text-fixed.ensures ∙ ap (λ (x : ℕ). fixed_text x a.code) c.byte_at.ensures)
    ∙ ap (roomy (length d)) (pieces_together h a.time.now a.id.now a.code a.behind.now (omega arith) o.header)

pub returns-clause-value : goal.returns-clause-value
returns-clause-value c = c.write_pieces.ensures.value ∙ ap answer (written (goal.at.returns-clause-value c).After-fixed_text-fixed)

pub returns-clause-buffer_after : goal.returns-clause-buffer_after
returns-clause-buffer_after c = c.write_pieces.ensures.buffer_after ∙ ap (λ (x : Outcome ℕ). filled x c.args.buffer.now) (written (goal.at.returns-clause-buffer_after c).After-fixed_text-fixed)
