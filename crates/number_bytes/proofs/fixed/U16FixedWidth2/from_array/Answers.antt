use Rattle.std.proofs.Common.{sym, ap, ◌∙◌}
use Rattle.number_bytes.specs.BigEndian.{big_endian, from_big_endian}
use Rattle.number_bytes.proofs.ClosedForms.{from_two, written_two}
use Rattle.number_bytes.proofs.Listing.{listing_all}
use Rattle.number_bytes.proofs.fixed.U16FixedWidth2.from_array.Goals as goal

pub returns : goal.returns
returns c =
    let l = c.args.bytes.now in
    let all = listing_all 2 l c.told-bytes in
    record {
      reads_them = (
        c.told-bytes,
        c.from_be_bytes.ensures ∙ sym (from_two l 0) ∙ ap from_big_endian all,
        ap (big_endian 2) c.from_be_bytes.ensures ∙ written_two l 0 c.fits-bytes ∙ all,
      );
    }
