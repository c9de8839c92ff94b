-- What the answer of `read_notice` says, and that it says what was written. Assumes nothing.
use Rattle.std.specs.Prelude.{true, List, ◌≡◌, refl, ℕ, ◌≤◌, ◌<◌, eqb}
use Rattle.std.specs.declared.result.Result.{Result}
use Rattle.std.specs.declared.result.Result.TheVariants.{Ok, Err}
use Rattle.meaning.specs.Octets.{pick}
use Rattle.meaning.specs.Notice.{status_of, copied_id, copied_type, notice_due, notice_record, Notice as Told, notice_in, notice_refusal}
use Rattle.meaning_laws.specs.NoticeLaws.{Octets, read_back, not-refused}
use Rattle.refusals.specs.declared.Refusal.{Refusal}
use Rattle.refusals.specs.declared.Refusal.TheVariants.{BadNotice}
use Rattle.notice_reader.specs.declared.Notice.{Notice}

abbrev pub said : Told → Notice
said n = record { neighbour = n.neighbour; id = n.id; status = n.status; copied_id = n.refused_id; copied_type = n.refused_type }

-- Octets are refused where `notice_refusal` has a number, which is the refusal's (`refused_by`); of any others the answer says what `notice_in` says.
unfoldable pub read_of : List ℕ → Result Notice Refusal
read_of o = pick (eqb (notice_refusal o) 0) (Ok (said (notice_in o))) (Err BadNotice)

-- what is written is read back as it was
pub reads-written : (id to number : ℕ) (s : List ℕ) → to ≤ 15 → id < 4294967296 → Octets s → notice_due number s ≡ true
    → read_of (notice_record id to number s) ≡ Ok (record { neighbour = to; id = id; status = status_of number; copied_id = copied_id s; copied_type = copied_type s })
unfolding read_of
reads-written id to number s near fits small due = rw (not-refused id to number s near fits small due, read_back id to number s near fits small due) refl
