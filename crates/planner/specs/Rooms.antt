-- The rooms of the text program, in entries (document 01, "The text program": "2,048 cells, 4,096 items, 64 ids, 128 edges, 256 events, 128 corners,
-- 512 samples, 257 bucket starts, 1,024 references, 256 owners, 32 corners seen, 2,048 outline points, 64 visible ids"), and what is lent of them:
-- slices of zeros. At most 512 points and 64 polygons are read. Definitions only, but for the two sums of the work room.
use Rattle.std.specs.Prelude.{◌≡◌, refl, replicate}
use Rattle.num.specs.Ops.{zero_f}
use Rattle.site.specs.Tables.{Tables, tables}
use Rattle.room.specs.declared.Rooms.{Rooms}
use Rattle.room.specs.Layout.{floats_for, words_for}
use Rattle.view.specs.Outcome.{Lent, lent}

unfoldable pub rooms : Rooms
rooms = record { ids = 64; edges = 128; events = 256; corners = 128; samples = 512; starts = 257; refs = 1024; owners = 256; seen = 32 }

-- so many floats and so many words are what the entries need
pub floats_are : floats_for rooms ≡ 3456
unfolding rooms
floats_are = refl

pub words_are : words_for rooms ≡ 6881
unfolding rooms
words_are = refl

-- the tables of a site: 512 points, 64 boxes, 64 polygons, an owner for each point, a start for each cell and one more, the items
unfoldable pub site_room : Tables
site_room = tables (replicate 1024 zero_f) (replicate 256 zero_f) (replicate 128 0) (replicate 512 0) (replicate 2049 0) (replicate 4096 0)

-- stamps, work room and output lists of an outline
unfoldable pub work_room : Lent
work_room = lent (replicate 64 0) 0 (replicate 3456 zero_f) (replicate 6881 0) (replicate 4096 zero_f) (replicate 64 0)
