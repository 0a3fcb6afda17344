mod Recounting
