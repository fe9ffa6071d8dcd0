-- What a handle leaves for the others that share its file.
use Rattle.dbm_file.specs.Database.{store_of}
use Rattle.page_cache.specs.Stores.{store_below}
use Rattle.ndbm_c.specs.Sharing.{RestsOnDisk}

pub all_rest : RestsOnDisk
all_rest opened usable writable =
    (((store_below (store_of opened.db)).settles _ usable).waits writable).stable
